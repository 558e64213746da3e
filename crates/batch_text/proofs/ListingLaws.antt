-- Batches that are listed one after the other.
use Rattle.std.proofs.Common.{◌≡◌, ℕ, ◌+◌, List, [], ◌∷◌, ◌++◌, length, Option, Some, None, Ok, Err, refl, sym}
use Rattle.std.proofs.Common.{ap, subst, ◌∙◌, append-nil, append_assoc, arith, All}
use Rattle.std.specs.Io.KnownBytes.{prepend_known, Appends, Consumes}
use Rattle.std.proofs.{KnownBytes.Appends-nil, KnownBytes.Appends-trans, lemmas.List.length-append}
use Rattle.std.proofs.KnownBytes.{Consumes-nil, Consumes-trans, prepend_known-nil}
use Rattle.std.proofs.{lemmas.List.Concat.flat_map-append, lemmas.List.Elements.All-push}
use Rattle.wire_spec.specs.{declared.record.Batch.Batch, BatchSpelling.BatchFits, BatchSpelling.batch_spelling}
use Rattle.batch.specs.Streams.{Stream, Open, kept_bytes}
use Rattle.batch_reader.specs.declared.{reader.Position.Position, reader.ReadFault.ReadFault}
use Rattle.batch_reader.specs.Readings.{inlet, left, BeginsBadly, ReadsBatch, Takes}
use Rattle.batch_reader.proofs.ReadingLaws.{takes_spelling, refused_left}
use Rattle.batch_text.specs.declared.{listing.Listing.Listing, listing.ListFault.ListFault}
use Rattle.batch_text.specs.declared.listing.ListFault.TheVariants as fault
use Rattle.batch_text.specs.Listings.{text_of, texts_of, bytes_of, Lists, StopsListing}

-- what is known after some batches
pub record Underway (listing : Listing) (known before left after : Option (List ℕ))
    (batches position : ℕ) : Type 0 where
  pub done : List Batch
  pub fit : All BatchFits done
  pub taken : Consumes known left (bytes_of done)
  pub written : Appends before after (texts_of listing 0 done)
  pub count : batches ≡ length done
  pub size : position ≡ length (bytes_of done)

pub begun : (listing : Listing) (known before : Option (List ℕ)) (stream : Stream) → stream ≡ Open [] →
    Underway listing known before (left stream known) before 0 0
begun listing known before stream is =
    record {
      done = [];
      fit = λ k batch few. absurd (omega arith);
      taken = subst (λ (l : Option (List ℕ)). Consumes known l [])
          (sym (ap (λ (s : Stream). left s known) is ∙ prepend_known-nil known)) (Consumes-nil known);
      written = Appends-nil before;
      count = refl;
      size = refl;
    }

bytes_more : (batches : List Batch) (batch : Batch) →
    bytes_of (batches ++ batch ∷ []) ≡ bytes_of batches ++ batch_spelling batch
bytes_more batches batch =
    flat_map-append batch_spelling batches (batch ∷ [])
    ∙ ap (λ (l : List ℕ). bytes_of batches ++ l) (append-nil (batch_spelling batch))

texts_more : (listing : Listing) (position : ℕ) (batches : List Batch) (batch : Batch) →
    texts_of listing position (batches ++ batch ∷ [])
    ≡ texts_of listing position batches ++ text_of listing (position + length (bytes_of batches)) batch
texts_more listing position [] batch =
    append-nil (text_of listing position batch)
    ∙ ap (λ (p : ℕ). text_of listing p batch) (omega arith)
texts_more listing position (first ∷ batches) batch =
    let size = length (batch_spelling first) in
    let place : position + size + length (bytes_of batches) ≡ position + length (bytes_of (first ∷ batches)) =
    omega (arith, length-append (batch_spelling first) (bytes_of batches)) in
    ap (λ (l : List ℕ). text_of listing position first ++ l)
    (texts_more listing (position + size) batches batch
    ∙ ap (λ (p : ℕ). texts_of listing (position + size) batches ++ text_of listing p batch) place)
    ∙ sym (append_assoc (text_of listing position first) (texts_of listing (position + size) batches)
    (text_of listing (position + length (bytes_of (first ∷ batches))) batch))

rest_is : (left : Option (List ℕ)) (bytes front : List ℕ) → Consumes (Some bytes) left front →
    (rest : List ℕ) × (left ≡ Some rest) × (bytes ≡ front ++ rest)
rest_is None bytes front given = absurd given
rest_is (Some rest) bytes front given = (rest, refl, given)

module _ (listing : Listing) (known before after : Option (List ℕ)) (old new : Stream) (rest later : Option (List ℕ))
    (batches position : ℕ) (so_far : Underway listing known before (left old rest) after batches position) where
  pub goes_on : (more : Option (List ℕ)) (next : ℕ) (batch : Batch) → BatchFits batch →
      Takes old rest (Ok (Some batch)) new later → Appends after more (text_of listing position batch) →
      next ≡ position + length (batch_spelling batch) →
      Underway listing known before (left new later) more (batches + 1) next
  goes_on more next batch fits takes written size_is =
      let done = so_far.done in let sizes = length-append (bytes_of done) (batch_spelling batch) in
      let texts : texts_of listing 0 (done ++ batch ∷ []) ≡ texts_of listing 0 done ++ text_of listing position batch =
      texts_more listing 0 done batch
      ∙ ap (λ (p : ℕ). texts_of listing 0 done ++ text_of listing p batch) (omega (arith, so_far.size)) in
      record {
        done = done ++ batch ∷ [];
        fit = All-push BatchFits done batch so_far.fit fits;
        taken = subst (Consumes known (left new later)) (sym (bytes_more done batch))
            (Consumes-trans known (left old rest) (left new later) (bytes_of done) (batch_spelling batch) so_far.taken
            (takes_spelling old new rest later batch takes));
        written = subst (Appends before more) (sym texts)
            (Appends-trans before after more (texts_of listing 0 done) (text_of listing position batch) so_far.written
            written);
        count = omega (arith, so_far.count, length-append done (batch ∷ []));
        size = omega (arith, size_is, so_far.size, ap length (bytes_more done batch), sizes);
      }

  pub refused : (given now : Position) (why : ReadFault) (halt : ListFault) →
      ReadsBatch (inlet old rest given) (Err why) (inlet new later now) → Takes old rest (Err why) new later →
      StopsListing (prepend_known (kept_bytes new) later) batches position why halt →
      Lists listing known before (Err halt) after
  refused given now why (fault.Batch refusal) reads takes (count, size, why_is, other, shown) bytes is =
      let split = rest_is (left old rest) bytes (bytes_of so_far.done)
      (subst (λ (k : Option (List ℕ)). Consumes k (left old rest) (bytes_of so_far.done)) is so_far.taken) in
      let bad : BeginsBadly (left old rest) refusal.fault =
      (subst (λ (w : ReadFault). ReadsBatch (inlet old rest given) (Err w) (inlet new later now)) why_is reads).0 in
      let begins = bad split.0 split.1 other in
      let kept = refused_left old new rest later refusal.fault split.0
      (subst (λ (w : ReadFault). Takes old rest (Err w) new later) why_is takes) split.1 in (
        so_far.done,
        split.0,
        record { fit = so_far.fit; bytes_are = split.2; written = so_far.written },
        begins.1,
        begins.0,
        shown split.0 kept,
        count ∙ so_far.count,
        size ∙ so_far.size,
      )
  refused given now why fault.Read reads takes stops bytes is = tt
  refused given now why fault.Write reads takes stops bytes is = tt
  refused given now why fault.Memory reads takes stops bytes is = tt
