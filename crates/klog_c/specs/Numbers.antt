-- The numbers of faults.
use Rattle.std.specs.Prelude.{ℕ}
use Rattle.machine_spec.specs.declared.instruction.IsaFault.{IsaFault}
use Rattle.verifier_spec.specs.declared.{fault.Check.Check, fault.LoadFault.LoadFault}
use Rattle.verifier_spec.specs.declared.fault.LoadFault.TheVariants.{Isa, Verify}
use Rattle.wire_spec.specs.declared.fault.BatchFault.{BatchFault}
use Rattle.wire_spec.specs.declared.fault.BatchFault.TheVariants as fault
use Rattle.program_file.specs.declared.fault.FileFault.{FileFault}
use Rattle.program_file.specs.declared.fault.FileFault.TheVariants as file
use Rattle.rules.specs.declared.fault.RuleFault.{RuleFault}
use Rattle.rules.specs.declared.fault.RuleFault.TheVariants as rule
use Rattle.rules_compiler.specs.declared.fault.CompileFault.{CompileFault}
use Rattle.rules_compiler.specs.declared.fault.CompileFault.TheVariants as compile
use Rattle.rules_compiler.specs.declared.text.TextFault.{TextFault}
use Rattle.rules_compiler.specs.declared.text.TextFault.TheVariants as text
use Rattle.transform.specs.declared.memory.Stop.{Stop}
use Rattle.transform.specs.declared.memory.Stop.TheVariants as stop

-- the number of a fault of an image without code: I1 to I6 are 101 to 106; 1 where memory ran out
abbrev pub isa_number : IsaFault → ℕ
isa_number IsaFault.Size = 101
isa_number (IsaFault.Opcode slot) = 102
isa_number (IsaFault.Register slot) = 103
isa_number (IsaFault.Unused slot) = 104
isa_number (IsaFault.Wide slot) = 105
isa_number (IsaFault.NotInProfile slot) = 106
isa_number IsaFault.Memory = 1

-- the number of a check that a program fails: V1 to V13 are 201 to 213, and V15 is 215; 1 where memory ran out
abbrev pub check_number : Check → ℕ
check_number Check.JumpTarget = 201
check_number Check.BackJump = 202
check_number Check.RunsOff = 203
check_number Check.Unset = 204
check_number Check.WrongType = 205
check_number Check.Frame = 206
check_number Check.RecordBounds = 207
check_number Check.StackBounds = 208
check_number Check.StackUnset = 209
check_number Check.ReadOnly = 210
check_number Check.Helper = 211
check_number Check.HelperArg = 212
check_number Check.Exit = 213
check_number Check.Memory = 1
check_number Check.Notes = 215

-- the number of a fault of a program file: G1 to G4 are 401 to 404; 1 where memory ran out
abbrev pub file_number : FileFault → ℕ
file_number file.Short = 401
file_number file.Version = 402
file_number file.Table = 403
file_number file.Lines = 404
file_number file.Memory = 1

-- the number of a fault of a line of rules: E1 to E7 are 501 to 507; 1 where memory ran out
abbrev pub rule_number : RuleFault → ℕ
rule_number (rule.Word spot) = 501
rule_number (rule.Number spot) = 502
rule_number (rule.Text spot) = 503
rule_number (rule.Long spot) = 504
rule_number (rule.Deep spot) = 505
rule_number (rule.Many spot) = 506
rule_number (rule.End spot) = 507
rule_number rule.Memory = 1

-- the number of a fault of rules that are not compiled, and the rule that it is about: E9 is 509.
-- Where memory ran out it is 1, and about no rule.
abbrev pub compile_told : CompileFault → ℕ × ℕ
compile_told (compile.Slots number) = (509, number)
compile_told compile.Memory = (1, 0)

-- the number of a fault of a text of rules; 1 where memory ran out
abbrev pub text_number : TextFault → ℕ
text_number (text.Line fault) = rule_number fault
text_number (text.Rules fault) = (compile_told fault).0
text_number text.Memory = 1

-- Of a refusal of an image: I1 to I6 are 101 to 106, V1 to V13 are 201 to 213. Where memory ran out it is 1.
abbrev pub fault_number : LoadFault → ℕ
fault_number (Isa fault) = isa_number fault
fault_number (Verify fault) = check_number fault.kind

-- the slot that a fault of an image without code is about; 0 where it is about none
abbrev pub isa_place : IsaFault → ℕ
isa_place IsaFault.Size = 0
isa_place (IsaFault.Opcode slot) = slot
isa_place (IsaFault.Register slot) = slot
isa_place (IsaFault.Unused slot) = slot
isa_place (IsaFault.Wide slot) = slot
isa_place (IsaFault.NotInProfile slot) = slot
isa_place IsaFault.Memory = 0

-- the slot of an image, or the instruction, that a refusal is about
abbrev pub fault_place : LoadFault → ℕ
fault_place (Isa fault) = isa_place fault
fault_place (Verify fault) = fault.pc

-- the number of a fault of a batch: B1 to B9 are 301 to 309; 1 where memory ran out
abbrev pub batch_number : BatchFault → ℕ
batch_number fault.Short = 301
batch_number fault.Length = 302
batch_number fault.TooLarge = 303
batch_number fault.Magic = 304
batch_number fault.Crc = 305
batch_number fault.Attributes = 306
batch_number fault.Count = 307
batch_number (fault.Record place) = 308
batch_number fault.Timestamp = 309
batch_number fault.Memory = 1

-- of what stops a transform: B1 to B9 are 301 to 309
abbrev pub stop_number : Stop → ℕ
stop_number (stop.Batch why) = batch_number why
stop_number stop.Full = 7
stop_number stop.Limit = 9
stop_number stop.Memory = 1

-- the record of its batch that a fault is about; 0 where it is about none
abbrev pub batch_record : BatchFault → ℕ
batch_record fault.Short = 0
batch_record fault.Length = 0
batch_record fault.TooLarge = 0
batch_record fault.Magic = 0
batch_record fault.Crc = 0
batch_record fault.Attributes = 0
batch_record fault.Count = 0
batch_record (fault.Record place) = place
batch_record fault.Timestamp = 0
batch_record fault.Memory = 0

-- the record of its batch that a stop is about; 0 where it is about none
abbrev pub stop_record : Stop → ℕ
stop_record (stop.Batch why) = batch_record why
stop_record stop.Full = 0
stop_record stop.Limit = 0
stop_record stop.Memory = 0
