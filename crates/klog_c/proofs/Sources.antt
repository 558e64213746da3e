-- What comes of a transform.
use Rattle.std.proofs.Common.{◌≡◌, ◌≢◌, ℕ, ◌≤◌, Bool, true, List, Option, Ok, Err, inl, inr}
use mathlib.Core.Path.{refl, sym, subst}
use Rattle.machine_spec.specs.Image.{Program}
use Rattle.transform.specs.{declared.memory.Stop.Stop, declared.memory.BatchPlace.BatchPlace}
use Rattle.transform.specs.declared.memory.Transformed.{Transformed}
use Rattle.transform.specs.Transformed.{IsTransformed, TransformsBatches, size_of}
use Rattle.transform.specs.declared.memory.Stop.TheVariants as stop
use Rattle.klog_c.specs.{Numbers.stop_number, Numbers.stop_record, Calls.Fills}
use Rattle.klog_c.specs.Batches.{is_source, origin_of, stopped_at, TransformsSource, TransformsIf, Transforms}
use Rattle.klog_c.specs.declared.{object.Object.Object, transforming.BatchSource.BatchSource, transforming.Stopped.Stopped}
use Rattle.klog_c.specs.declared.object.Object.TheVariants as object

module _ (program : Program) (source : BatchSource) (bytes : List ℕ) (before : Option Object) (place : BatchPlace) where
  stopped_by : (why : Stop) → why ≢ stop.Memory →
      TransformsBatches program (origin_of source) bytes source.limit (Err why) place →
      TransformsSource program source bytes before before (stopped_at place why) (stop_number why)
  stopped_by why other stops =
      let at = stops other in
      inr (inr (
        refl,
        record {
          batches = at.0;
          rest = at.1;
          why = why;
          ends = at.2;
          stops = at.3;
          number_is = refl;
          place_is = refl;
        },
      ))

  stops : (why : Stop) → TransformsBatches program (origin_of source) bytes source.limit (Err why) place →
      TransformsSource program source bytes before before (stopped_at place why) (stop_number why)
  stops (stop.Batch fault) at = stopped_by (stop.Batch fault) (λ e. cc) at
  stops stop.Full at = stopped_by stop.Full (λ e. cc) at
  stops stop.Limit at = stopped_by stop.Limit (λ e. cc) at
  stops stop.Memory at = inr (inl (refl, refl))

  module _ (ranged : is_source source ≡ true) where
    in_range : (after : Option Object) (told : Stopped) (number : ℕ) →
        TransformsSource program source bytes before after told number →
        Transforms (Ok program) source bytes before after told number
    in_range after told number is =
        subst (λ (range : Bool). TransformsIf range program source bytes before after told number) (sym ranged) is

    pub stopped : (why : Stop) (told : ℕ × ℕ) → told ≡ (stop_number why, stop_record why) →
        TransformsBatches program (origin_of source) bytes source.limit (Err why) place →
        Transforms (Ok program) source bytes before before
        (record { batch = place.batch; byte = place.byte; place = told.1 }) told.0
    stopped why told is at = in_range before _ told.0 (subst (λ (x : ℕ × ℕ). TransformsSource program source bytes
        before before (record { batch = place.batch; byte = place.byte; place = x.1 }) x.0) (sym is) (stops why at))

    pub transformed : (made : Transformed) (after : Option Object) (told : Stopped) (number : ℕ) →
        IsTransformed program (origin_of source) bytes made × (size_of made ≤ source.limit) →
        Fills (object.Batches made) before after number →
        Transforms (Ok program) source bytes before after told number
    transformed made after told number is fills = in_range after told number (inl (made, is.0, is.1, fills))
