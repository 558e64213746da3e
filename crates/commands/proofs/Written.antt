-- What standard output holds after a text was written and flushed.
use Rattle.std.proofs.Common.{◌≡◌, ℕ, List, ◌∙◌, Option, Some, None, Result, Ok, Err, OnOk, IfOk, IfErr}
use Rattle.std.proofs.Common.{IsOkAnd, IsErrAnd}
use Rattle.std.specs.Prelude.{⊤}
use Rattle.std.specs.Io.KnownBytes.{Appends, Keeps}
use Rattle.wire_spec.specs.Writing.{HasBegun}
use Rattle.report.specs.Writes.{Writes}
use Rattle.commands.specs.{declared.stop.Stop.Stop, Sessions.IsPrinted, Stops.IsUnwritten}

pub appended_and_kept : (before written flushed : Option (List ℕ)) (text : List ℕ) → Appends before written text →
    Keeps written flushed → Appends before flushed text
appended_and_kept None written flushed text a k = tt
appended_and_kept (Some xs) None flushed text a k = absurd a
appended_and_kept (Some xs) (Some ys) None text a k = absurd k
appended_and_kept (Some xs) (Some ys) (Some zs) text a k = k ∙ a

-- There was memory for a line, which was written.
pub line_printed : {A E : Type 0} (made : Result A E) (view : A → List ℕ) (before after : Option (List ℕ))
    (line : List ℕ) → IsOkAnd made (λ text. Appends before after (view text)) → IfOk made (λ text. view text ≡ line) →
    Appends before after line
line_printed (Ok text) view before after line written is = rw is at written
line_printed (Err fault) view before after line written is = absurd written

-- A line was printed if there was memory for it and it was written.
pub is_printed : {A E : Type 0} (made : Result A E) (view : A → List ℕ) (before after : Option (List ℕ))
    (line : List ℕ) (result : Result ⊤ Stop) → OnOk result (IsOkAnd made (λ text. Appends before after (view text))) →
    IfErr result IsUnwritten → IfOk made (λ text. view text ≡ line) → IsPrinted before after line result
is_printed made view before after line (Ok done) written failed is =
    line_printed made view before after line written is
is_printed made view before after line (Err reason) written failed is = failed

-- A report that is not written to its end has begun.
pub has_begun : (before after : Option (List ℕ)) (text : List ℕ) (reason : Stop) (result : Result ⊤ Stop) →
    HasBegun before after text → IsErrAnd result (λ r. r ≡ reason) → IsUnwritten reason →
    Writes before after text result × IfErr result IsUnwritten
has_begun before after text reason (Ok done) begun is failed = absurd is
has_begun before after text reason (Err given) begun is failed = (begun, rw is failed)
