-- What is explained of an image.
use Rattle.std.specs.Prelude.{◌≡◌, ◌≢◌, ℕ, ◌+◌, min, List, ◌++◌, length, Option, Some, None, option_map, is_some, true}
use Rattle.std.specs.Prelude.{Result, Ok, Err, IfSome, string_bytes}
use Rattle.machine_spec.specs.declared.{helper.Table.Table, instruction.IsaFault.IsaFault, instruction.Placed.Placed}
use Rattle.machine_spec.specs.Image.{Program, helpers_of, read_image}
use Rattle.machine_spec.specs.declared.instruction.IsaFault.TheVariants as isa
use Rattle.verifier_spec.specs.declared.{fault.VerifyFault.VerifyFault, fault.LoadFault.TheVariants.Verify}
use Rattle.verifier_spec.specs.{Annotation.Claims, JoinedStates.joined_states, Loading.IsAccepted}
use Rattle.verifier_spec.specs.Loading.{IsRefusedWith}
use Rattle.explain.specs.declared.{explanation.Explanation.Explanation, explanation.Diagnosis.Diagnosis, way.Coverage.Coverage}
use Rattle.explain.specs.{Texts.texts_below, Ways.is_listed, Ways.lines_where, Endings.ending_text, Reasons.reason_at}
use Rattle.explain.specs.{Hints.hint_at, Meetings.slot_of}

-- A program is accepted, or refused at an instruction with its fault.
abbrev pub IsVerdict : Program → Option VerifyFault → Type 0
IsVerdict program None = IsAccepted program
IsVerdict program (Some fault) = IsRefusedWith program (Verify fault)

-- how many instructions may be listed: all, or those up to the refused one
abbrev pub printed_count : List Placed → Option VerifyFault → ℕ
printed_count code None = length code
printed_count code (Some fault) = min (fault.pc + 1) (length code)

-- the lines of those that are listed, and the ending
abbrev pub listing : Coverage → List Placed → Claims → Option VerifyFault → List ℕ
listing coverage code claims fault =
    texts_below (printed_count code fault) (lines_where (is_listed coverage code claims fault) code claims)
    ++ ending_text claims (printed_count code fault) fault

-- a fault of code with these states, its slot, what it is about, and what usually leads to it
abbrev pub refusal_at : Table → List Placed → Claims → VerifyFault → Diagnosis
refusal_at table code claims fault =
    record {
      fault = fault;
      slot = slot_of code fault.pc;
      reason = reason_at code claims fault;
      hint = hint_at table code claims fault (reason_at code claims fault);
    }

-- what a refusal is about is there
abbrev pub HasReason : Diagnosis → Type 0
HasReason refusal = is_some refusal.reason ≡ true

-- A program with code is explained: by its verdict, the joined states of its instructions, as many as asked, and what
-- its fault is about.
pub record Explains (coverage : Coverage) (program : Program) (explanation : Explanation) : Type 0 where
  pub code : List Placed
  pub read : read_image program.image ≡ Ok code
  pub fault : Option VerifyFault
  pub verdict : IsVerdict program fault
  pub lines : string_bytes explanation.lines
      ≡ listing coverage code (joined_states (helpers_of program.table) code) fault
  pub refusal : explanation.refusal
      ≡ option_map (refusal_at program.table code (joined_states (helpers_of program.table) code)) fault
  pub reasoned : IfSome explanation.refusal HasReason

-- One with none has its refusal; nothing is said where memory ran out.
abbrev pub ExplainsAs : Coverage → Program → Result Explanation IsaFault → Type 0
ExplainsAs coverage program (Ok explanation) = Explains coverage program explanation
ExplainsAs coverage program (Err fault) = fault ≢ isa.Memory → read_image program.image ≡ Err fault

-- whether a program is refused, and with which fault, where its image has code
abbrev pub HasVerdict : Program → Result (Option VerifyFault) IsaFault → Type 0
HasVerdict program (Ok fault) = IsVerdict program fault
HasVerdict program (Err fault) = fault ≢ isa.Memory → read_image program.image ≡ Err fault
