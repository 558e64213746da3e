-- How the faults of a batch, a file and a report stop a command.
use Rattle.std.proofs.Common.{◌≡◌, ◌≢◌, ◌⊎◌, List, ℕ, refl, inl, inr}
use Rattle.wire_spec.specs.declared.fault.BatchFault.{BatchFault}
use Rattle.wire_spec.specs.declared.fault.BatchFault.TheVariants as batch
use Rattle.report.specs.declared.fault.ReportFault.{ReportFault}
use Rattle.report.specs.declared.fault.ReportFault.TheVariants as report
use Rattle.commands.specs.declared.{reading.Unread.Unread, stop.Stop.Stop}
use Rattle.commands.specs.declared.reading.Unread.TheVariants as unread
use Rattle.commands.specs.declared.stop.Stop.TheVariants as stop
use Rattle.commands.specs.Stops.{stop_of_fault, stop_of_report, stop_of_unread, IsUnwritten}

pub of_fault : (fault : BatchFault) → (stop_of_fault fault ≡ stop.Memory)
    ⊎ ((fault ≢ batch.Memory) × (stop_of_fault fault ≡ stop.Batch fault))
of_fault batch.Memory = inl refl
of_fault fault = inr (λ e. cc, refl)

-- a file couldn't be read, or memory ran out
pub unread_is : (name : List ℕ) (cause : Unread) (reason : Stop) → reason ≡ stop_of_unread name cause →
    (reason ≡ stop.Memory) ⊎ (reason ≡ stop.File name)
unread_is name unread.File reason is = inr is
unread_is name unread.Memory reason is = inl is

-- a report is not written to its end
pub unwritten_report : (fault : ReportFault) → IsUnwritten (stop_of_report fault)
unwritten_report report.Write = tt
unwritten_report report.Memory = tt
