-- What a line appends of a reader's bytes, and what it prints of that.
use Rattle.std.proofs.Common.{◌≡◌, ◌≢◌, ℕ, ◌<◌, ◌≤◌, List, [], ◌∷◌, ◌++◌, ◌-◌, length, take, drop, Result, Ok, Err}
use Rattle.std.proofs.Common.{refl, sym, ap, inl, inr, ◌∙◌, append-nil, arith, Option, Some, None, IfSome}
use Rattle.std.proofs.{Math.Seq.drop-append_seam, lemmas.List.take_all, lemmas.List.length-drop}
use Rattle.std.specs.Prelude.{⊤}
use Rattle.std.specs.Io.KnownBytes.{Appends, Consumes, IsAtEnd}
use Rattle.wire_spec.specs.{declared.fault.BatchFault.BatchFault, BatchReading.batch_at}
use Rattle.wire_spec.specs.declared.fault.BatchFault.TheVariants as faults
use Rattle.wire_spec.proofs.MoreBytes.{batch_at-part, batch_at-append}
use Rattle.part_log.specs.Parts.{Received}
use Rattle.part_log.specs.declared.fault.LogFault.TheVariants as log
use Rattle.batch_reader.{specs.Readings.IsBadNext, proofs.ReadingLaws.found_before}
use Rattle.broker.specs.Streams.{Streams, AppendsFrom}
use Rattle.broker.specs.declared.fault.BrokerFault.TheVariants as broker
use Rattle.broker.specs.declared.stream.StreamFault.{StreamFault}
use Rattle.broker.specs.declared.stream.StreamFault.TheVariants as stream
use Rattle.broker.proofs.StreamLaws.{more_bytes}
use Rattle.script.specs.declared.command.FileWord.{FileWord}
use Rattle.commands.specs.declared.{reading.Unread.Unread, stop.Stop.Stop}
use Rattle.commands.specs.declared.reading.Unread.TheVariants as unread
use Rattle.commands.specs.declared.stop.Stop.TheVariants as stop
use Rattle.commands.specs.Appends.{append_lines, bytes_of, unread_of, EndsAt, AppendsOf, Prints, AppendDoes}
use Rattle.commands.specs.Stops.{stop_of_fault, stop_of_unread, end_of_stream, IsUnread}
use Rattle.commands.proofs.StopLaws.{of_fault}

-- ---- All bytes of a reader

-- all bytes that a reader has are those that were taken and those that are left, of which there are none at its end
record Whole (before after : Option (List ℕ)) (taken : List ℕ) : Type 0 where
  left : List ℕ
  known_is : IfSome before (λ all. taken ++ left ≡ all)
  none_left : IsAtEnd after → left ≡ []

whole : (before after : Option (List ℕ)) (taken : List ℕ) → Consumes before after taken → Whole before after taken
whole None after taken is = record { left = []; known_is = tt; none_left = λ end. refl }
whole (Some all) None taken is = absurd is
whole (Some all) (Some left) taken is = record { left = left; known_is = sym is; none_left = λ end. end }

some_byte : (byte : ℕ) (left : List ℕ) → byte ∷ left ≢ []
some_byte byte left none = cc

-- with more bytes after them, bytes begin with no batch for the same reason, unless they were too few
still_bad : (rest left : List ℕ) (fault : BatchFault) → batch_at rest ≡ Err fault → (fault ≡ faults.Short → left ≡ []) →
    batch_at (rest ++ left) ≡ Err fault
still_bad rest [] fault bad none = ap batch_at (append-nil rest) ∙ bad
still_bad rest (byte ∷ left) fault bad none =
    batch_at-append rest (byte ∷ left) (λ part. some_byte byte left
    (none (cc (batch_at-part rest part)))) ∙ bad

some_left : (rest left : List ℕ) → rest ≢ [] → rest ++ left ≢ []
some_left [] left some none = absurd (some refl)
some_left (byte ∷ rest) left some none = some_byte byte (rest ++ left) none

known_or_none : (known : Option (List ℕ)) → (bytes : List ℕ) × IfSome known (λ all. bytes ≡ all)
known_or_none None = ([], tt)
known_or_none (Some all) = (all, refl)

module _ (inputs input : ℕ) (cause : Stop) (old new : List Received) where
  -- what was appended of the bytes that were taken was appended of all
  of_all : (before after : Option (List ℕ)) (rest : List ℕ) (result : Result ⊤ Stop) →
      Streams input before after old new rest →
      ((left : List ℕ) → (IsAtEnd after → left ≡ []) → EndsAt inputs input cause old new (rest ++ left) result) →
      AppendsOf inputs input before cause old new result
  of_all before after rest result is ends =
      let all = whole before after is.taken is.consumed in
      record {
        bytes = is.taken ++ all.left;
        known_is = all.known_is;
        rest = rest ++ all.left;
        appended = record {
          added = is.appended.added;
          new_is = is.appended.new_is;
          are = more_bytes input is.taken is.appended.added rest all.left is.appended.are;
        };
        ends = ends all.left all.none_left;
      }

  bad_next : (after : Option (List ℕ)) (rest left : List ℕ) (fault : BatchFault) → input < inputs →
      IsBadNext after rest fault → (IsAtEnd after → left ≡ []) →
      EndsAt inputs input cause old new (rest ++ left) (Err (stop_of_fault fault))
  bad_next after rest left fault there bad none = elim (of_fault fault) [
    | inl same ↦ rw same tt
    | inr (other, same) ↦
        let b = bad other in
        rw same (there, some_left rest left b.0, still_bad rest left fault b.1 (λ short. none (b.2 short)))
  ]

  -- nothing is appended
  nothing : (known : Option (List ℕ)) (reason : Stop) → new ≡ old →
      ((rest : List ℕ) → EndsAt inputs input cause old new rest (Err reason)) →
      AppendsOf inputs input known cause old new (Err reason)
  nothing known reason same ends =
      let all = known_or_none known in
      record {
        bytes = all.0;
        known_is = all.1;
        rest = all.0;
        appended = record { added = []; new_is = same ∙ sym (append-nil old); are = refl };
        ends = ends all.0;
      }

  unread_ends : (why : Stop) → cause ≡ why → IsUnread why → (rest : List ℕ) →
      EndsAt inputs input cause old new rest (Err why)
  unread_ends (stop.File name) same is rest = sym same
  unread_ends stop.Memory same is rest = tt
  unread_ends other same is rest = absurd is

  pub appends_from : (before after : Option (List ℕ)) (appended : Result ℕ StreamFault) → IsUnread cause →
      AppendsFrom inputs input before after old appended new →
      AppendsOf inputs input before cause old new (end_of_stream cause appended)
  appends_from before after (Ok count) is (there, (rest, streams, (counted, none, end))) =
      of_all before after rest (Ok tt) streams
      (λ left none_left. (there, ap (λ (front : List ℕ). front ++ left) none ∙ none_left end))
  appends_from before after (Err stream.Read) is (there, (rest, streams, stops)) =
      of_all before after rest (Err cause) streams (λ left none_left. unread_ends cause refl is (rest ++ left))
  appends_from before after (Err (stream.Batch fault)) is (there, (rest, streams, bad)) =
      of_all before after rest (Err (stop_of_fault fault)) streams
      (λ left none_left. bad_next after rest left fault there bad none_left)
  appends_from before after (Err (stream.Broker broker.Partition)) is (absent, same, kept) =
      nothing before (stop.Broker broker.Partition) same (λ rest. (absent, same))
  appends_from before after (Err (stream.Broker broker.Memory)) is (there, (rest, streams, stops)) =
      of_all before after rest (Err stop.Memory) streams (λ left none_left. tt)
  appends_from before after (Err (stream.Broker (broker.Log log.Memory))) is (there, (rest, streams, stops)) =
      of_all before after rest (Err stop.Memory) streams (λ left none_left. tt)
  appends_from before after (Err (stream.Broker (broker.Log fault))) is
      (there, (rest, streams, (batch, used, found))) =
      of_all before after rest (Err (stop.Broker (broker.Log fault))) streams
      (λ left none_left. (there, batch, used, found_before rest left batch used found))
  appends_from before after (Err (stream.Broker broker.NoProgram)) is (there, (rest, streams, stops)) = absurd stops
  appends_from before after (Err (stream.Broker (broker.Catalogue fault))) is (there, (rest, streams, stops)) =
      absurd stops
  appends_from before after (Err (stream.Broker (broker.Book fault))) is (there, (rest, streams, stops)) = absurd stops

-- a file that is not opened
pub unopened : (inputs input : ℕ) (known : Option (List ℕ)) (name : List ℕ) (old : List Received) (cause : Unread)
    (reason : Stop) → reason ≡ stop_of_unread name cause →
    AppendsOf inputs input known (stop.File name) old old (Err reason)
unopened inputs input known name old unread.File reason is =
    rw is (nothing inputs input (stop.File name) old old known (stop.File name) refl (λ rest. refl))
unopened inputs input known name old unread.Memory reason is =
    rw is (nothing inputs input (stop.File name) old old known stop.Memory refl (λ rest. tt))

-- ---- The lines of what was appended

prints : (before after : Option (List ℕ)) (text : List ℕ) (result : Result ⊤ Stop) → Appends before after text →
    Prints before after text result
prints before after text (Ok done) is = is
prints before after text (Err stop.Output) is = tt
prints before after text (Err stop.Memory) is = tt
prints before after text (Err other) is = is

-- what was added to a list is what follows its first part
added_is : (old new added all : List Received) (count : ℕ) → new ≡ old ++ added → all ≡ new → count ≡ length old →
    take (length all - count) (drop count all) ≡ added
added_is old new added all count same all_is count_is =
    let rest : drop count all ≡ added = ap (λ (n : ℕ). drop n all) count_is ∙ ap (drop (length old)) (all_is ∙ same)
    ∙ drop-append_seam old added in
    let whole : length (drop count all) ≤ length all - count = omega (arith, length-drop count all) in
    take_all (length all - count) (drop count all) whole ∙ rest

-- all lines were printed
pub all_printed : (inputs : ℕ) (files : List ℕ → Option (List ℕ)) (input : ℕ) (source : FileWord)
    (old new : List Received) (before after : Option (List ℕ)) (appended : Result ⊤ Stop) →
    AppendsOf inputs input (bytes_of files source) (unread_of source) old new appended →
    (all : List Received) (count : ℕ) → all ≡ new → count ≡ length old →
    Appends before after (append_lines input (take (length all - count) (drop count all))) →
    AppendDoes inputs files input source old new before after appended
all_printed inputs files input source old new before after appended is all count all_is count_is printed = record {
  appends = is;
  printed = prints before after _ appended
      (rw (added_is old new is.appended.added all count is.appended.new_is all_is count_is) at printed);
}
