use Rattle.std.proofs.Common.{◌≡◌, ◌<◌, ◌+◌, ◌++◌, List, length, map, take, get_or, slice_get, Some, sym, ap, subst}
use Rattle.std.proofs.Common.{◌∙◌, arith, [], ◌∷◌}
use Rattle.std.proofs.lemmas.List.{length-map, length-take, map-append, take_more, get_or_default}
use Rattle.std.proofs.lemmas.Option.{slice_get-get_or, get_or_from_slice_get}
use Rattle.machine_spec.specs.declared.{outcome.Outcome.Outcome, outcome.Place.Place}
use Rattle.exec.specs.Endings.{outcome_in, outcomes_of}
use Rattle.fates.specs.{declared.fate.Fate.Fate, Fates.fate_of, Totals.AreCounts}
use Rattle.item_rows.specs.ItemRows.{Adds}
use Rattle.item_rows.specs.Blocks.{records_from, rows_of_each, AreFatesMore}
use Rattle.item_rows.proofs.RowLaws.{take_all}
use Rattle.item_rows.proofs.BlockLaws.{one_fate, fates_then, outcome_more, outcomes_long, outcome_here, between_at}
use Rattle.item_rows.proofs.BlockLaws.{between_long}
use Rattle.item_rows.proofs.outcomes.push_outcomes.Goals as goal
use Rattle.exec.proofs.Outcomes.{no_ending}

abbrev nowhere : Place
nowhere = record { partition = 0; offset = 0; timestamp = 0; outputs = 0 }

pub push_ended-requires-clause-within : goal.push_ended-requires-clause-within
push_ended-requires-clause-within c = omega (
  arith,
  c.loop-index.invariant.long,
  c.requires.places,
  c.loop-index-test.true,
)

pub new-given-requires : goal.new-given-requires
new-given-requires c = omega (arith, c.requires.places, c.requires.records, c.loop-index-test.true)

pub push_ended-requires-clause-place : goal.push_ended-requires-clause-place
push_ended-requires-clause-place c = c.requires.ranges c.loop-index.index nowhere c.loop-index-test.true

pub add-requires : goal.add-requires
add-requires c =
    let block = c.args.block.now in let records = records_from c.args.records.now.from (length block) c.args.records.now.logged.now.records in
    let outcomes = outcomes_of records block in let k = c.loop-index.index in
    let long = between_long c.args.records.now.logged.now.records c.args.records.now.from (length block) c.requires.records in
    omega (
      arith,
      c.loop-index.invariant.counts.records,
      length-map (take k outcomes) fate_of,
      length-take k outcomes,
      c.loop-index-test.true,
      c.requires.places,
      outcomes_long records block long,
      long,
      c.requires.few,
    )

pub loop-index-preserved : goal.loop-index-preserved
loop-index-preserved c =
    let first = c.args.first in let places = c.args.records.now.places.now in let block = c.args.block.now in let all_records =
    c.args.records.now.logged.now.records in let records = records_from c.args.records.now.from (length block) all_records in
    let outcomes = outcomes_of records block in let k = c.loop-index.index in let inv = c.loop-index.invariant in
    let done = take k outcomes in
    let in_block : k < length block = omega (arith, c.loop-index-test.true, c.requires.places) in
    let ended = get_or block k no_ending in let there : slice_get block k ≡ Some ended =
    slice_get-get_or block k no_ending in_block in
    let pushed = c.in_ok-fate.ensures.pushed ended (inv.left k (omega arith) ∙ there) in
    let given = c.new-given.result in
    let outcome = outcome_in given ended in let place = get_or places k nowhere in
    let lt : k < length places = c.loop-index-test.true in
    let long = between_long all_records c.args.records.now.from (length block) c.requires.records in
    let within : k < length outcomes = omega (arith, lt, c.requires.places, long, outcomes_long records block long) in
    let at = between_at all_records c.args.records.now.from (length block) k given (omega (arith, lt, c.requires.places))
    c.requires.records c.new-given.ensures in
    let here : slice_get outcomes k ≡ Some outcome = outcome_here records block k given ended
    (omega (arith, lt, c.requires.places, long)) (omega (arith, lt, c.requires.places)) at there in
    let longer : take (k + 1) outcomes ≡ done ++ outcome ∷ [] = take_more outcomes k outcome within
    ∙ ap (λ (o : Outcome). done ++ o ∷ []) (get_or_from_slice_get outcomes k outcome outcome here) in
    let one : AreFatesMore (fate_of outcome ∷ []) c.loop-index.counts c.add.new.self =
    one_fate (fate_of outcome) c.loop-index.counts c.add.new.self
    (subst (λ (f : Fate). (fates : List Fate) → AreCounts fates c.loop-index.counts →
    AreCounts (fates ++ f ∷ []) c.add.new.self) pushed.0 c.in_ok-add.ensures.counts)
    c.in_ok-add.ensures.records in record {
      long = c.push_ended.ensures.length ∙ inv.long;
      left = λ j le. c.push_ended.ensures.others j (λ same. absurd (omega (arith, le, same)))
          ∙ inv.left j (omega (arith, le));
      rows = subst (λ (os : List Outcome). Adds first c.args.all.now c.push_ended.new.all
          (λ q here. here ≡ rows_of_each q places os)) (sym longer)
          (outcome_more first places outcomes k place outcome c.args.all.now c.loop-index.all
          c.push_ended.new.all lt within (get_or_default places k nowhere place lt) inv.rows pushed.1);
      counts = subst (λ (os : List Outcome). AreFatesMore (map fate_of os) c.args.counts.now c.add.new.self)
          (sym longer)
          (subst (λ (fs : List Fate). AreFatesMore fs c.args.counts.now c.add.new.self)
          (sym (map-append fate_of done (outcome ∷ [])))
          (fates_then (map fate_of done) (fate_of outcome ∷ []) c.args.counts.now c.loop-index.counts c.add.new.self
          inv.counts one));
    }

pub returns : goal.returns
returns c =
    let block = c.args.block.now in let records = records_from c.args.records.now.from (length block) c.args.records.now.logged.now.records in
    let outcomes = outcomes_of records block in
    let long = between_long c.args.records.now.logged.now.records c.args.records.now.from (length block) c.requires.records in
    let whole : take c.loop-index.index outcomes ≡ outcomes =
    take_all c.loop-index.index outcomes (omega (
      arith,
      c.loop-index-test.false,
      c.requires.places,
      long,
      outcomes_long records block long,
    )) in
    record {
      rows = subst (λ (os : List Outcome). Adds c.args.first c.args.all.now c.loop-index.all
          (λ q here. here ≡ rows_of_each q c.args.records.now.places.now os)) whole c.loop-index.invariant.rows;
      counts = subst (λ (os : List Outcome). AreFatesMore (map fate_of os) c.args.counts.now c.loop-index.counts) whole
          c.loop-index.invariant.counts;
    }
