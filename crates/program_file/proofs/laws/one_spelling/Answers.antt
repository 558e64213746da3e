use Rattle.std.proofs.Common.{◌≡◌, Ok, length, subst, sym, List, ℕ}
use Rattle.program_file.proofs.FileTexts.{read_is, is_read, is_spelled, spelled_is}
use Rattle.program_file.specs.Spelling.{spelling}
use Rattle.program_file.specs.Reading.{read_file}
use Rattle.program_file.proofs.laws.one_spelling.Goals as goal

pub returns-clause-reads : goal.returns-clause-reads
returns-clause-reads c =
    λ bytes file fit begins. (
      λ e. spelled_is bytes file fit begins (read_is bytes file e),
      λ both. subst (λ (b : List ℕ). read_file b ≡ Ok file) (sym both.1)
          (is_read (spelling file) (length file.image) file (is_spelled file both.0)),
    )
