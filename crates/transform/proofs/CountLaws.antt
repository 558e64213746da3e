-- What became of the records of batches, and its counts.
use Rattle.std.proofs.Common.{◌≡◌, ℕ, ◌+◌, ◌≤◌, Bool, true, cond, List, [], ◌∷◌, ◌++◌, length, Some, None, refl, sym}
use Rattle.std.proofs.Common.{ap, subst, ◌∙◌, append_assoc, append-nil, arith, ◌==◌}
use Rattle.std.specs.Cmp.{unsigned_tied}
use Rattle.std.proofs.lemmas.Bool.Decides.{nat_tests}
use Rattle.wire_spec.specs.declared.record.Batch.{Batch}
use Rattle.machine_spec.specs.Image.{Program}
use Rattle.log_spec.specs.Logs.{Records}
use Rattle.fates.specs.{declared.fate.Fate.Fate, Fates.AreItemFates, Fates.AreRecordsFates}
use Rattle.fates.specs.Totals.{Totals, totals, rejected_by, AreCounts, AreCountsWith}
use Rattle.fates.proofs.FateLaws.{records_fates}
use Rattle.item_rows.specs.declared.{origin.Origin.Origin, part.Part.Part}
use Rattle.item_rows.specs.Blocks.{records_from}
use Rattle.item_rows.proofs.BlockLaws.{between_long}
use Rattle.transform.specs.Transforms.{AreFates, Flow, none_counted, AddsCounts, CountsBatch, CountsBatches, records_of}
use Rattle.transform.specs.Parts.{CountsPart}

-- ---- no record

-- a list in which no code is listed has no entry
none_listed : (rejects : List (ℕ × ℕ)) → ((code : ℕ) → rejected_by code rejects ≡ None) → rejects ≡ []
none_listed [] none = refl
none_listed ((code, count) ∷ later) none = absurd (some_not_none (sym here ∙ none code))
  where
    same : (code == code) ≡ true
    same = grind (arith, nat_tests)

    here : rejected_by code ((code, count) ∷ later) ≡ Some count
    here = ap (λ (b : Bool). cond b (Some count) (rejected_by code later)) (unsigned_tied code code ∙ same)

    some_not_none : Some count ≡ None → ⊥
    some_not_none h = absurd cc

-- the counts of no record are all 0
pub none_are : (counts : Totals) → AreCounts [] counts → counts ≡ none_counted
none_are counts are =
    let rejects : counts.rejects ≡ [] = none_listed counts.rejects are.rejects_are in
    subst (λ (r : ℕ). counts ≡ totals r 0 0 []) are.records_are
    (subst (λ (u : ℕ). counts ≡ totals counts.records u 0 []) are.unprogrammed_are
    (subst (λ (k : ℕ). counts ≡ totals counts.records counts.unprogrammed k []) are.kept_are
    (subst (λ (rs : List (ℕ × ℕ)). counts ≡ totals counts.records counts.unprogrammed counts.kept rs) rejects refl)))

-- no fate changes no counts
pub adds_none : (counts : Totals) → AddsCounts counts [] counts
adds_none counts before are = subst (λ (fs : List Fate). AreCounts fs counts) (sym (append-nil before)) are

-- ---- some records

-- as many records were counted as there are
pub part_counted : (origin : Origin) (program : Program) (batch : Batch) (part : Part) (counts : Totals) →
    part.first + part.count ≤ length batch.records →
    AreCountsWith (AreRecordsFates origin.input origin.outputs (Some program) batch (origin.offset + part.first)
    (records_from part.first part.count batch.records)) counts → counts.records ≡ part.count
part_counted origin program batch part counts within are =
    are.counts_are.records_are
    ∙ (records_fates origin.input origin.outputs (Some program) batch (origin.offset + part.first)
    (records_from part.first part.count batch.records) are.fates are.fates_are
    ∙ between_long batch.records part.first part.count within)

-- their fates are those that their counts are of
pub counts_part : (program : Program) (origin : Origin) (batch : Batch) (part : Part) (old here here' new : Totals) →
    here' ≡ here →
    AreCountsWith (AreRecordsFates origin.input origin.outputs (Some program) batch (origin.offset + part.first)
    (records_from part.first part.count batch.records)) here →
    ((before later : List Fate) → AreCounts before old → AreCounts later here' → AreCounts (before ++ later) new) →
    CountsPart program origin batch part old new
counts_part program origin batch part old here here' new same are sums = (
  are.fates,
  are.fates_are,
  λ before were. sums before are.fates were (subst (AreCounts are.fates) (sym same) are.counts_are),
)

-- ---- one batch more

pub fates_more : (input outputs : ℕ) (program : Program) (offset : ℕ) (batches : List Batch) (batch : Batch)
    (fates here : List Fate) → AreFates input outputs program offset batches fates →
    AreItemFates input outputs (Some program) (offset + records_of batches) (Records batch) here →
    AreFates input outputs program offset (batches ++ batch ∷ []) (fates ++ here)
fates_more input outputs program offset [] batch fates here none is =
    let at : offset + 0 ≡ offset = omega arith in (
      here,
      [],
      subst (λ (o : ℕ). AreItemFates input outputs (Some program) o (Records batch) here) at is,
      refl,
      ap (λ (fs : List Fate). fs ++ here) none ∙ sym (append-nil here),
    )
fates_more input outputs program offset (first ∷ batches) batch fates here are is =
    let at : offset + records_of (first ∷ batches) ≡ (offset + length first.records) + records_of batches =
    omega arith in
    let later = fates_more input outputs program (offset + length first.records) batches batch are.1 here are.3
    (subst (λ (o : ℕ). AreItemFates input outputs (Some program) o (Records batch) here) at is) in (
      are.0,
      are.1 ++ here,
      are.2,
      later,
      ap (λ (fs : List Fate). fs ++ here) are.4 ∙ append_assoc are.0 are.1 here,
    )

pub counts_more : (start old : Flow) (program : Program) (batches : List Batch) (batch : Batch) (new : Totals) →
    old.input ≡ start.input → length old.outputs ≡ length start.outputs →
    old.offset ≡ start.offset + records_of batches → CountsBatches start program batches old.counts →
    CountsBatch program batch old new → CountsBatches start program (batches ++ batch ∷ []) new
counts_more start old program batches batch new input count offset (fates, are, so_far) (here, is, more) =
    let with_input = subst (λ (i : ℕ). AreItemFates i (length old.outputs) (Some program) old.offset (Records batch)
    here) input is in
    let with_count = subst (λ (n : ℕ). AreItemFates start.input n (Some program) old.offset (Records batch) here) count
    with_input in
    let with_offset = subst (λ (o : ℕ). AreItemFates start.input (length start.outputs) (Some program) o
    (Records batch) here) offset with_count in (
      fates ++ here,
      fates_more start.input (length start.outputs) program start.offset batches batch fates here are with_offset,
      λ before were. subst (λ (fs : List Fate). AreCounts fs new) (append_assoc before fates here)
          (more (before ++ fates) (so_far before were)),
    )
