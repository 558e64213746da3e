-- Output partitions that are filled and emptied.
use Rattle.std.proofs.Common.{◌≡◌, ℕ, ◌<◌, List, [], length, slice_index_or, slice_set, None, Err, sym, subst}
use Rattle.std.proofs.lemmas.List.{length-set, get_or-set_same, get_or-set_other}
use Rattle.std.proofs.lemmas.Option.{slice_get-get_or, get_or_from_slice_get}
use Rattle.log_spec.specs.declared.row.Row.{Row}
use Rattle.item_rows.specs.ItemRows.{rows_in}
use Rattle.transform.specs.{declared.flow.TransformFault.TransformFault, declared.outlet.OutletFault.OutletFault}
use Rattle.transform.specs.{Backlogs.waiting, Backlogs.with_rows}
use Rattle.transform.specs.declared.flow.TransformFault.TheVariants as fault
use Rattle.transform.specs.declared.outlet.OutletFault.TheVariants as cause
use Rattle.transform.specs.Outlets.{Outflow, outflow, WroteFull, PutsRows}
use Rattle.transform.specs.Transforms.{Fills, FillsFirst, StopsFirst, Empties, EmptiesSome, StopsEmptying, InOne}
use Rattle.transform.specs.Transforms.{output_at, Stays, PutsEach, PutsOne, EndsEach, EndsOne}
use Rattle.transform.proofs.{OutletLaws.full_none, OutletLaws.batches_none, EachLaws.InFirst, EachLaws.first_stops}

fills_first : (rows : List Row) (x y : Outflow) → Fills rows x y → FillsFirst rows x y
fills_first rows x y fills = (y.waits, fills)

fills_none : (rows : List Row) (x : Outflow) → FillsFirst rows x x
fills_none rows x = (with_rows x.waits rows, full_none (with_rows x.waits rows) x.written)

-- rows were not put into an output partition
stops_first : (rows : List Row) (x y : Outflow) (why : OutletFault) → PutsRows x rows (Err why) y →
    StopsFirst rows x why y
stops_first rows x y cause.Write puts = puts.1
stops_first rows x y cause.Memory puts = puts.1
stops_first rows x y cause.Full (many, same) = (
  many,
  with_rows x.waits rows,
  subst (λ (o : Outflow). WroteFull (with_rows x.waits rows) x.written (with_rows x.waits rows) o.written) (sym same)
      (full_none (with_rows x.waits rows) x.written),
)

pub not_put : (output : ℕ) (rows : List Row) (old : List Outflow) (any new : Outflow) (why : OutletFault) →
    output < length old → PutsRows (slice_index_or old output any) rows (Err why) new →
    InOne old (slice_set old output new) output (λ x. StopsFirst rows x why) (λ other. Stays)
not_put output rows old any new why within puts =
    let none = outflow None (waiting 0 []) in let x = slice_index_or old output any in
    let before : output_at old output ≡ x =
    get_or_from_slice_get old output x none (slice_get-get_or old output any within) in
    let after : output_at (slice_set old output new) output ≡ new = get_or-set_same old output new none within in
    record {
      count = length-set old output new;
      within = within;
      here = subst (λ (o : Outflow). StopsFirst rows o why (output_at (slice_set old output new) output)) (sym before)
          (subst (StopsFirst rows x why) (sym after) (stops_first rows x new why puts));
      others = λ other lt not. get_or-set_other old output other new none not;
    }

pub put_stopped : (k : ℕ) (all : List (List Row)) (rows : List Row) (old mid new : List Outflow)
    (why : TransformFault) →
    rows ≡ rows_in all k → InFirst k old mid (λ q. Fills (rows_in all q)) → PutsOne k rows mid (Err why) new →
    PutsEach all old (Err why) new
put_stopped k all rows old mid new (fault.Output number cause) same first (at, one) =
    let here : InOne mid new k (λ x. StopsFirst (rows_in all k) x cause) (λ other. Stays) =
    subst (λ (rs : List Row). InOne mid new k (λ x. StopsFirst rs x cause) (λ other. Stays)) same one in
    subst (λ (n : ℕ). InOne old new n (λ x. StopsFirst (rows_in all n) x cause)
    (λ other. FillsFirst (rows_in all other)))
    (sym at)
    (first_stops (λ q. Fills (rows_in all q)) k old mid new (λ x. StopsFirst (rows_in all k) x cause)
    (λ q. FillsFirst (rows_in all q)) first here (λ q x y h. fills_first (rows_in all q) x y h)
    (λ q x. fills_none (rows_in all q) x))
put_stopped k all rows old mid new fault.Full same first one = absurd one
put_stopped k all rows old mid new fault.Memory same first one = absurd one

pub ended_one : (k : ℕ) (old mid new : List Outflow) (why : TransformFault) → InFirst k old mid (λ q. Empties) →
    EndsOne k mid (Err why) new → EndsEach old (Err why) new
ended_one k old mid new (fault.Output number cause) first (at, one) =
    subst (λ (n : ℕ). InOne old new n (λ x. StopsEmptying x cause) (λ other. EmptiesSome)) (sym at)
    (first_stops (λ q. Empties) k old mid new (λ x. StopsEmptying x cause) (λ q. EmptiesSome) first one
    (λ q x y h. (y.waits, h.0)) (λ q x. (x.waits, batches_none x.waits x.written)))
ended_one k old mid new fault.Full first one = absurd one
ended_one k old mid new fault.Memory first one = absurd one
