-- Bytes that are written in pieces.
use Rattle.std.proofs.Common.{ℕ, ◌+◌, List, [], ◌++◌, length, take, drop, Option, Some, None, sym, subst, ◌∙◌}
use Rattle.std.proofs.Common.{append-nil}
use Rattle.std.specs.Io.KnownBytes.{Appends, Keeps}
use Rattle.std.proofs.{KnownBytes.Appends-trans, Math.Seq.take-add, Math.Seq.take-append-add}
use Rattle.wire_spec.specs.Writing.{HasBegun}

pub kept_none : (a b : Option (List ℕ)) → Keeps a b → Appends a b []
kept_none None b k = tt
kept_none (Some xs) None k = absurd k
kept_none (Some xs) (Some ys) k = k ∙ sym (append-nil xs)

pub begun_kept : (a b : Option (List ℕ)) (bytes : List ℕ) → Keeps a b → HasBegun a b bytes
begun_kept a b bytes k = record { count = 0; written = kept_none a b k }

pub begun_some : (a b : Option (List ℕ)) (count : ℕ) (bytes : List ℕ) → Appends a b (take count bytes) →
    HasBegun a b bytes
begun_some a b count bytes h = record { count = count; written = h }

-- some of the bytes, and then some of the others
pub written_on : (a b c : Option (List ℕ)) (done count : ℕ) (bytes : List ℕ) → Appends a b (take done bytes) →
    Appends b c (take count (drop done bytes)) → Appends a c (take (done + count) bytes)
written_on a b c done count bytes h g =
    subst (λ (bs : List ℕ). Appends a c bs) (sym (take-add done count bytes))
    (Appends-trans a b c (take done bytes) (take count (drop done bytes)) h g)

pub begun_on : (a b c : Option (List ℕ)) (done : ℕ) (bytes : List ℕ) → Appends a b (take done bytes) →
    HasBegun b c (drop done bytes) → HasBegun a c bytes
begun_on a b c done bytes h g =
    record { count = done + g.count; written = written_on a b c done g.count bytes h g.written }

-- some bytes, and then a beginning of others
pub begun_then : (a b c : Option (List ℕ)) (x y : List ℕ) → Appends a b x → HasBegun b c y → HasBegun a c (x ++ y)
begun_then a b c x y h g = record {
  count = length x + g.count;
  written = subst (λ (bs : List ℕ). Appends a c bs) (sym (take-append-add x y g.count))
      (Appends-trans a b c x (take g.count y) h g.written);
}
