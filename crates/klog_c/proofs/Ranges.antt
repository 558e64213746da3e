-- What a run is given is in the ranges of the machine's, and what comes of it.
use Rattle.std.proofs.Common.{◌≡◌, ℕ, zero, suc, Bool, true, false, not, nat_le, if◌then◌else◌, List, length, ◌≤◌}
use Rattle.std.proofs.Common.{Option, Result, Ok, Err, IfOk, IfSome, inr, arith}
use mathlib.Core.Path.{refl, sym, subst, ◌∙◌}
use Rattle.std.specs.Str.{is_utf8}
use Rattle.std.proofs.lemmas.Str.{IsUtf8-from_is_utf8}
use Rattle.std.proofs.lemmas.Bool.{and_parts, leb-true, ltb-true}
use Rattle.wire_spec.specs.declared.limits.TheConstants.{MAX_KEY, MAX_VALUE, MAX_HEADERS, MAX_HEADER_VALUE}
use Rattle.wire_spec.specs.{declared.record.Header.Header, declared.record.Record.Record, RecordSpelling.HeaderFits}
use Rattle.wire_spec.specs.RecordSpelling.{RecordFits}
use Rattle.machine_spec.specs.{Image.Program, Meaning.IsPlace, declared.outcome.Place.Place}
use Rattle.klog_c.specs.{RecordParts.part_of, RecordParts.is_part_fitting}
use Rattle.klog_c.specs.{declared.object.Object.Object, declared.running.Asked.Asked}
use Rattle.klog_c.specs.Calls.{run_fault, record_of, place_of, is_in_range, is_key_null, is_value_null}
use Rattle.klog_c.specs.Calls.{RecordUnless, GivesRecord, RunsTo, RunsUnless, RunsGiven, Runs}
use Rattle.klog_c.specs.Headers.{AreHeaders, header_of, are_parts_short, header_fault}

both : (a b : Bool) → ◌≡◌ {A = ℕ} (if not a then 3 else if not b then 4 else 0) 0 → (a ≡ true) × (b ≡ true)
both true true none = (refl, refl)
both true false none = absurd (cc (none))
both false b none = absurd (cc (none))

in_range : (asked : Asked) → is_in_range asked ≡ true → IsPlace (place_of asked)
in_range asked range =
    let nulls = and_parts _ _ range in
    let outputs = and_parts _ _ nulls.0 in
    let some = and_parts _ _ outputs.0 in
    let timestamp = and_parts _ _ some.0 in
    let offset = and_parts _ _ timestamp.0 in
    record {
      partition = ltb-true _ _ offset.0;
      offset = ltb-true _ _ offset.1;
      timestamp = ltb-true _ _ timestamp.1;
      some_output = leb-true _ _ some.1;
      outputs = leb-true _ _ outputs.1;
    }

-- ---- parts and headers

fits : (is_null : Bool) (bytes : List ℕ) (most : ℕ) → is_part_fitting is_null bytes most ≡ true
    → IfSome (part_of is_null bytes) (λ part. length part ≤ most)
fits true bytes most fitting = tt
fits false bytes most fitting = leb-true _ _ fitting

-- a header without a fault
three : (a b c : Bool) → ◌≡◌ {A = ℕ} (if not a then 4 else if not b then 8 else if c then 3 else 0) 0 →
    (a ≡ true) × (b ≡ true)
three true true c none = (refl, refl)
three true false c none = absurd (cc (none))
three false b c none = absurd (cc (none))

pub header_fits : (count : ℕ) (key value : List ℕ) (is_null : Bool) (header : Header) →
    header_fault count key is_null value ≡ 0 → header ≡ header_of key is_null value → HeaderFits header
header_fits count key value is_null header none is =
    let tests = three (are_parts_short key is_null value) (is_utf8 key) (nat_le MAX_HEADERS count) none in
    let short = and_parts _ _ tests.0 in
    subst HeaderFits (sym is) (record {
      key = leb-true _ _ short.0;
      text = IsUtf8-from_is_utf8 key tests.1;
      value = fits is_null value MAX_HEADER_VALUE short.1;
    })

-- ---- records

-- the record of a run without a fault
pub record_fits : (asked : Asked) (key value : List ℕ) (headers : List Header) → run_fault asked key value ≡ 0 →
    AreHeaders headers → RecordFits (record_of asked key value headers)
record_fits asked key value headers none are =
    let parts = and_parts _ _ (both _ _ none).1 in
    record {
      timestamp = record { sfits = omega arith };
      key = fits (is_key_null asked.nulls) key MAX_KEY parts.0;
      value = fits (is_value_null asked.nulls) value MAX_VALUE parts.1;
      count = are.0;
      headers = are.1;
    }

pub place_is : (asked : Asked) (key value : List ℕ) → run_fault asked key value ≡ 0 → IsPlace (place_of asked)
place_is asked key value none = in_range asked (both _ _ none).0

-- what is known of a record that is given
given_parts : (fault : ℕ) (wanted given : Record) → RecordUnless fault wanted (Ok given) →
    (fault ≡ 0) × RecordFits given
given_parts zero wanted given is = (refl, is.1)
given_parts (suc fault) wanted given is = absurd (cc (is))

-- what is asked of a run's record
pub given_is : (held : Result (List Header) ℕ) (asked : Asked) (key value : List ℕ) (given : Result Record ℕ) →
    GivesRecord held asked key value given → IfOk given (λ x. RecordFits x × IsPlace (place_of asked))
given_is (Err fault) asked key value (Ok given) is = absurd (cc (is))
given_is (Err fault) asked key value (Err number) is = tt
given_is (Ok headers) asked key value (Ok given) is =
    let parts = given_parts (run_fault asked key value) (record_of asked key value headers) given is in
    (parts.1, place_is asked key value parts.0)
given_is (Ok headers) asked key value (Err number) is = tt

-- a run on the record of what C gives
ran_unless : (fault : ℕ) (program : Program) (place : Place) (wanted : Record) (given : Result Record ℕ)
    (before after : Option Object) (number : ℕ) → RecordUnless fault wanted given →
    RunsGiven (Ok program) place given before after number →
    RunsUnless fault program (record { given = wanted; place = place }) before after number
ran_unless zero program place wanted (Ok given) before after number is runs =
    subst (λ (x : Record). RunsTo program (record { given = x; place = place }) before after number) is.0 runs
ran_unless zero program place wanted (Err fault) before after number is runs = inr (runs.0, runs.1 ∙ is)
ran_unless (suc fault) program place wanted given before after number is runs =
    subst (λ (x : Result Record ℕ). RunsGiven (Ok program) place x before after number) is runs

pub ran : (program : Result Program ℕ) (held : Result (List Header) ℕ) (asked : Asked) (key value : List ℕ)
    (given : Result Record ℕ) (before after : Option Object) (number : ℕ) → GivesRecord held asked key value given →
    RunsGiven program (place_of asked) given before after number → Runs program held asked key value before after number
ran (Err fault) held asked key value given before after number gives runs = runs
ran (Ok program) (Err fault) asked key value given before after number gives runs =
    subst (λ (x : Result Record ℕ). RunsGiven (Ok program) (place_of asked) x before after number) gives runs
ran (Ok program) (Ok headers) asked key value given before after number gives runs =
    ran_unless (run_fault asked key value) program (place_of asked) (record_of asked key value headers) given before
    after number gives runs
