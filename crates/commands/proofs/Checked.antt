-- What `check` and `dis` print of an image, once their answer was printed.
use Rattle.std.proofs.Common.{◌≡◌, ℕ, List, Option, Result, Ok, Err, inl, inr}
use Rattle.wire_spec.specs.Memory.{AnswersAs}
use Rattle.machine_spec.specs.Image.{Program}
use Rattle.commands.specs.declared.{image.Refused.Refused, status.Status.Status, status.Status.TheVariants.Failed}
use Rattle.commands.specs.declared.image.Refused.TheVariants as refused
use Rattle.commands.specs.{Images.ChecksAs, Images.PrintsCheck, Texts.PrintsAs}

pub checked : {X : Type 0} {program : Program} (view : X → List ℕ) (answer : Result X Refused) {status : Status}
    {before after : Option (List ℕ)} → ChecksAs program view answer → PrintsAs view answer status before after →
    PrintsCheck program status before after
checked view (Ok text) is (inl is_failed) = inl is_failed
checked view (Ok text) (accepted, line) (inr (done, printed)) =
    inr (inl (record { accepted = accepted; status_is = done; printed = rw line at printed }))
checked view (Err reported) is (inl is_failed) = inl is_failed
checked view (Err (refused.Image fault)) is (inr (same, kept)) =
    inr (inr (record { fault = fault; refused = is; status_is = same; kept = kept }))
checked view (Err refused.Memory) is (inr (same, kept)) = inl same

failed : (said : Result (List ℕ) Refused) (status : Status) (before after : Option (List ℕ)) → status ≡ Failed →
    PrintsAs (λ text. text) said status before after
failed (Ok text) status before after is_failed = inl is_failed
failed (Err reported) status before after is_failed = inl is_failed

pub disassembled : {X : Type 0} (view : X → List ℕ) (answer : Result X Refused) (said : Result (List ℕ) Refused)
    (status : Status) (before after : Option (List ℕ)) → AnswersAs refused.Memory view answer said →
    PrintsAs view answer status before after → PrintsAs (λ text. text) said status before after
disassembled view (Ok text) said status before after is told = rw is told
disassembled view (Err (refused.Image fault)) said status before after is told = rw (is (λ e. cc)) told
disassembled view (Err refused.Memory) said status before after is (inl is_failed) =
    failed said status before after is_failed
disassembled view (Err refused.Memory) said status before after is (inr (same, kept)) =
    failed said status before after same
