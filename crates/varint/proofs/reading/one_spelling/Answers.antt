use Rattle.std.proofs.Common.{subst, sym, List, ℕ}
use Rattle.wire_spec.specs.Varint.{IsVarint, IsVarlong}
use Rattle.wire_spec.proofs.Varints.{one_varint, one_varlong, varint_is, varlong_is, IsVarint-varint, IsVarlong-varlong}
use Rattle.varint.proofs.reading.one_spelling.Goals as goal

pub returns-clause-varint : goal.returns-clause-varint
returns-clause-varint c = one_varint

pub returns-clause-varlong : goal.returns-clause-varlong
returns-clause-varlong c = one_varlong

pub returns-clause-varint_spelling : goal.returns-clause-varint_spelling
returns-clause-varint_spelling c =
    λ form z. (
      λ h. (h.fits, varint_is form z h),
      λ h. subst (λ (f : List ℕ). IsVarint f z) (sym h.1)
          (IsVarint-varint z h.0),
    )

pub returns-clause-varlong_spelling : goal.returns-clause-varlong_spelling
returns-clause-varlong_spelling c =
    λ form z. (
      λ h. (h.fits, varlong_is form z h),
      λ h. subst (λ (f : List ℕ). IsVarlong f z) (sym h.1)
          (IsVarlong-varlong z h.0),
    )
