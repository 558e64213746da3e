-- Batches that are taken off bytes and the pieces that are read behind them.
use Rattle.std.proofs.Common.{◌≡◌, ℕ, List, [], ◌∷◌, ◌++◌, length, take, drop, Option, Some, None, Result, Ok, Err}
use Rattle.std.proofs.Common.{refl, sym, ap, subst, ◌∙◌, append-nil, append_assoc, arith, take-append-drop}
use Rattle.std.specs.Io.KnownBytes.{prepend_known, Consumes, IsAtEnd}
use Rattle.std.proofs.KnownBytes.{Consumes-nil, Consumes-trans}
use Rattle.std.proofs.{lemmas.Option.same_Some, lemmas.List.drop-append-le, lemmas.List.length-take}
use Rattle.wire_spec.specs.declared.{record.Batch.Batch, fault.BatchFault.BatchFault}
use Rattle.wire_spec.specs.declared.fault.BatchFault.TheVariants as faults
use Rattle.wire_spec.specs.{BatchReading.size_at, BatchReading.batch_at, BatchSpelling.batch_spelling}
use Rattle.wire_spec.proofs.MoreBytes.{batch_at-part, batch_at-append}
use Rattle.batch.specs.Streams.{Stream, Open, pending_bytes, kept_bytes, with_piece, Gives}
use Rattle.batch.proofs.FeedLaws.{batch_at-taken, kept_after}
use Rattle.batch_reader.specs.declared.{reader.Position.Position, reader.ReadFault.ReadFault}
use Rattle.batch_reader.specs.declared.reader.ReadFault.TheVariants as fault
use Rattle.batch_reader.specs.Readings.{with_batch, inlet, left, ReadsBatch, BeginsWith, IsBadNext, Takes, CountsGiven}
use Rattle.batch_reader.specs.Readings.{Fed}

ok_not_err : {A E : Type 0} (x : A) (e : E) → Ok x ≡ Err e → ⊥
ok_not_err x e h = absurd cc

same_err : {A E : Type 0} (d e : E) → ◌≡◌ {A = Result A E} (Err d) (Err e) → d ≡ e
same_err d e h = cc

-- what begins with a batch begins with it still where more bytes follow
pub found_before : (front later : List ℕ) (batch : Batch) (used : ℕ) → batch_at front ≡ Ok (batch, used) →
    batch_at (front ++ later) ≡ Ok (batch, used)
found_before front later batch used found =
    batch_at-append front later (λ part. ok_not_err (batch, used) faults.Short (sym found ∙ batch_at-part front part))
    ∙ found

-- what is refused is refused still, unless it ends inside a batch
refused_before : (front later : List ℕ) (why : BatchFault) → (why ≡ faults.Short → later ≡ []) →
    batch_at front ≡ Err why → batch_at (front ++ later) ≡ Err why
refused_before front [] why end bad = ap batch_at (append-nil front) ∙ bad
refused_before front (b ∷ later) why end bad =
    batch_at-append front (b ∷ later)
    (λ part. let none = end (same_err why faults.Short (sym bad ∙ batch_at-part front part)) in absurd cc) ∙ bad

some_before : (front later : List ℕ) → (front ≡ [] → ⊥) → front ++ later ≡ [] → ⊥
some_before [] later some none = some refl
some_before (b ∷ front) later some none = absurd cc

-- known bytes are those that were kept, those that were read behind them, and those that the reader has left
parts : (front : List ℕ) (before after : Option (List ℕ)) (read bytes : List ℕ) → Consumes before after read →
    prepend_known front before ≡ Some bytes →
    (later : List ℕ) × (after ≡ Some later) × (bytes ≡ (front ++ read) ++ later)
parts front None after read bytes consumed known = absurd cc
parts front (Some x) None read bytes consumed known = absurd consumed
parts front (Some x) (Some later) read bytes consumed known = (
  later,
  refl,
  sym (same_Some (front ++ x) bytes known) ∙ (ap (λ (l : List ℕ). front ++ l) consumed
      ∙ sym (append_assoc front read later)),
)

at_end : (known : Option (List ℕ)) → ((bytes : List ℕ) → known ≡ Some bytes → bytes ≡ []) → IsAtEnd known
at_end None none = tt
at_end (Some x) none = none x refl

consumes : (known left : Option (List ℕ)) (front : List ℕ) → ((bytes : List ℕ) → known ≡ Some bytes →
    (rest : List ℕ) × (left ≡ Some rest) × (bytes ≡ front ++ rest)) → Consumes known left front
consumes None left front splits = tt
consumes (Some x) left front splits =
    let split = splits x refl in subst (λ (k : Option (List ℕ)). Consumes (Some x) k front) (sym split.1) split.2

pub begins_with : (before after : Option (List ℕ)) (front read first : List ℕ) (size : ℕ) → Consumes before after read →
    first ≡ take size (front ++ read) → BeginsWith (prepend_known front before) first
begins_with before after front read first size consumed is bytes known =
    let split = parts front before after read bytes consumed known in
    let others = drop size (front ++ read) in (
      others ++ split.0,
      split.2 ∙ (ap (λ (l : List ℕ). l ++ split.0) (sym (take-append-drop size (front ++ read))
          ∙ ap (λ (l : List ℕ). l ++ others) (sym is)) ∙ append_assoc first others split.0),
    )

-- ---- what was taken

module _ (old new : Stream) (before after : Option (List ℕ)) where
  pub reads : (given now : Position) (result : Result (Option Batch) ReadFault) → Takes old before result new after →
      CountsGiven given result now → ReadsBatch (inlet old before given) result (inlet new after now)
  reads given now (Ok (Some batch)) (read, consumed, (used, found, spelled, is)) counted =
      let front = pending_bytes old ++ read in
      let there = (batch_at-taken front batch used found).there in
      let split = λ (bytes : List ℕ) (known : left old before ≡ Some bytes).
      parts (pending_bytes old) before after read bytes consumed known in
      let size : length (batch_spelling batch) ≡ used =
      omega (arith, there, ap length spelled, length-take used front) in
      let found_in = λ (bytes : List ℕ) (known : left old before ≡ Some bytes).
      ap batch_at (split bytes known).2 ∙ found_before front (split bytes known).0 batch used found in (
        is ∙ ap (λ (bs : List ℕ). Open bs) (sym (ap pending_bytes is)),
        λ bytes known.
            let later = (split bytes known).0 in
            let new_left : left new after ≡ Some (drop used front ++ later) =
            ap (λ (s : Stream). left s after) is ∙ ap (prepend_known (drop used front)) (split bytes known).1 in (
              used,
              found_in bytes known,
              new_left ∙ ap (λ (bs : List ℕ). Some bs) (sym (ap (drop used)
                  (split bytes known).2 ∙ drop-append-le used front later there)),
            ),
        record {
          bytes = front;
          used = used;
          found = found;
          at_front = found_in;
          counted = counted ∙ ap (with_batch given) size;
        },
      )
  reads given now (Ok None) (read, consumed, (none, is, end)) counted =
      let ended = λ (bytes : List ℕ) (known : left old before ≡ Some bytes).
      let split = parts (pending_bytes old) before after read bytes consumed known in
      let no_more : split.0 ≡ [] = subst IsAtEnd split.1 end in
      split.2 ∙ (ap (λ (l : List ℕ). (pending_bytes old ++ read) ++ l) no_more
      ∙ (append-nil (pending_bytes old ++ read) ∙ none)) in
      (at_end (left old before) ended, is, counted)
  reads given now (Err (fault.Batch why)) (read, consumed, (bad, kept)) counted = (
    λ bytes known other.
        let split = parts (pending_bytes old) before after read bytes consumed known in
        let is = bad other in
        let end : why ≡ faults.Short → split.0 ≡ [] = λ short. subst IsAtEnd split.1 (is.2 short) in (
          ap batch_at split.2 ∙ refused_before (pending_bytes old ++ read) split.0 why end is.1,
          λ none. some_before (pending_bytes old ++ read) split.0 is.0 (sym split.2 ∙ none),
        ),
    counted,
  )
  reads given now (Err fault.Read) takes counted = counted
  reads given now (Err fault.Memory) takes counted = counted

  -- known bytes lose the batch that was taken
  pub takes_spelling : (batch : Batch) → Takes old before (Ok (Some batch)) new after →
      Consumes (left old before) (left new after) (batch_spelling batch)
  takes_spelling batch (read, consumed, (used, found, spelled, is)) =
      let front = pending_bytes old ++ read in
      let left_is : front ≡ batch_spelling batch ++ pending_bytes new = sym (take-append-drop used front)
      ∙ (ap (λ (l : List ℕ). l ++ drop used front) spelled
      ∙ ap (λ (l : List ℕ). batch_spelling batch ++ l) (sym (ap pending_bytes is))) in
      consumes (left old before) (left new after) (batch_spelling batch) (λ bytes known.
      let split = parts (pending_bytes old) before after read bytes consumed known in (
        pending_bytes new ++ split.0,
        ap (prepend_known (pending_bytes new)) split.1,
        split.2 ∙ (ap (λ (l : List ℕ). l ++ split.0) left_is
            ∙ append_assoc (batch_spelling batch) (pending_bytes new) split.0),
      ))

  -- known bytes stay where they are refused
  pub refused_left : (why : BatchFault) (bytes : List ℕ) → Takes old before (Err (fault.Batch why)) new after →
      left old before ≡ Some bytes → prepend_known (kept_bytes new) after ≡ Some bytes
  refused_left why bytes (read, consumed, (bad, kept)) known =
      let split = parts (pending_bytes old) before after read bytes consumed known in
      ap (prepend_known (kept_bytes new)) split.1
      ∙ ap (λ (bs : List ℕ). Some bs) (ap (λ (l : List ℕ). l ++ split.0) kept ∙ sym split.2)

-- ---- steps

-- more was read, and holds no whole batch
pub record Underway (old : Stream) (before : Option (List ℕ)) (new : Stream) (after : Option (List ℕ)) : Type 0 where
  pub fed : Fed old before new after
  pub part : batch_at (pending_bytes new) ≡ Err faults.Short

pub fed_none : (old : Stream) (before : Option (List ℕ)) → old ≡ Open (pending_bytes old) → Fed old before old before
fed_none old before is = record {
  read = [];
  consumed = Consumes-nil before;
  is = is ∙ ap (λ (bs : List ℕ). Open bs) (sym (append-nil (pending_bytes old)));
}

module _ (old mid new : Stream) (before between after : Option (List ℕ)) where
  pub fed_more : (piece : List ℕ) → Fed old before mid between → Consumes between after piece →
      new ≡ with_piece mid piece → Fed old before new after
  fed_more piece fed consumed is = record {
    read = fed.read ++ piece;
    consumed = Consumes-trans before between after fed.read piece fed.consumed consumed;
    is = is ∙ (ap (λ (s : Stream). with_piece s piece) fed.is
        ∙ ap (λ (bs : List ℕ). Open bs) (append_assoc (pending_bytes old) fed.read piece));
  }

  -- memory ran out for a piece
  pub lost : (piece : List ℕ) → Fed old before mid between → Consumes between after piece →
      Takes old before (Err fault.Memory) new after
  lost piece fed consumed =
      (fed.read ++ piece, Consumes-trans before between after fed.read piece fed.consumed consumed, tt)

-- no byte begins no batch
no_batch : batch_at [] ≡ Err faults.Short
unfolding size_at
no_batch = batch_at-part [] refl

module _ (old mid new : Stream) (before after : Option (List ℕ)) (fed : Fed old before mid after) where
  pub takes_batch : (batch : Batch) → Gives mid (Ok (Some batch)) new → Takes old before (Ok (Some batch)) new after
  takes_batch batch gives =
      (fed.read, fed.consumed, subst (λ (s : Stream). Gives s (Ok (Some batch)) new) fed.is gives)

  pub takes_refusal : (why : BatchFault) → Gives mid (Err why) new → Takes old before (Err (fault.Batch why)) new after
  takes_refusal why gives =
      let bytes = pending_bytes old ++ fed.read in
      let given : Gives (Open bytes) (Err why) new = subst (λ (s : Stream). Gives s (Err why) new) fed.is gives in
      let bad : IsBadNext after bytes why = λ other.
      let is = given.0 other in (
        λ none. is.0 (same_err why faults.Short (sym is.1 ∙ (ap batch_at none ∙ no_batch))),
        is.1,
        λ short. absurd (is.0 short),
      ) in
      (fed.read, fed.consumed, (bad, ap kept_bytes given.1 ∙ kept_after bytes why))
