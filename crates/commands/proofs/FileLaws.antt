-- What the files of a transform have.
use Rattle.std.proofs.Common.{◌≡◌, ◌≢◌, ◌⊎◌, ℕ, ◌+◌, ◌<◌, ◌≤◌, Bool, true, false, List, [], ◌∷◌, ◌++◌, length, Option}
use Rattle.std.proofs.Common.{Some, None, Result, Ok, Err, refl, sym, inl, inr, ⊎_elim, ◌∙◌, arith, ◌-◌, All}
use Rattle.std.proofs.Common.{IfSome, OnOk, string_bytes, ◌↔◌, ap, take, drop}
use Rattle.std.specs.{declared.string.String.String}
use Rattle.std.proofs.{lemmas.Bool.cases_lt, lemmas.Bool.cases_eq, lemmas.List.Elements.All-push}
use Rattle.std.proofs.lemmas.List.{get_or_append_left, get_or_push, length_push, length-map, take-append-drop}
use Rattle.wire_spec.specs.declared.record.Batch.{Batch}
use Rattle.machine_spec.specs.Image.{Program}
use Rattle.log_spec.specs.declared.row.Row.{Row}
use Rattle.batch.specs.{Batches.AreBatches, Streams.Open}
use Rattle.batch_reader.specs.declared.reader.ReadFault.TheVariants as read
use Rattle.batch_reader.specs.Readings.{Inlet, inlet, none_given}
use Rattle.transform.specs.{declared.stream.StreamFault.StreamFault}
use Rattle.transform.specs.Streams.{TransformsAll, AreOf, is_broken}
use Rattle.transform.specs.declared.stream.StreamFault.TheVariants as fault
use Rattle.transform.specs.declared.flow.TransformFault.TheVariants as stop
use Rattle.transform.specs.declared.outlet.OutletFault.TheVariants as outlet
use Rattle.transform.specs.Backlogs.{Waiting, waiting, with_rows}
use Rattle.transform.specs.Outlets.{Outflow, outflow, WroteBatches, IsTooMany}
use Rattle.transform.specs.Transforms.{Flow, flow, none_counted, output_at, AreRows, AreRowsOfALog}
use Rattle.transform.specs.Transforms.{Finished, Broken}
use Rattle.script.specs.Words.{word_at}
use Rattle.commands.specs.declared.{status.Status.Status, status.Status.TheVariants.Failed}
use Rattle.command_line.specs.Calls.{names_of}
use Rattle.commands.specs.declared.endpoint.Endpoint.{Endpoint}
use Rattle.commands.specs.FileTransforms.{KeepsOthers, HasRows, IsFresh, HasWritten, HaveWritten, StreamsAs, Overfills}
use Rattle.commands.specs.FileTransforms.{EndsAt}
use Rattle.commands.specs.FileTransforms.{status_of, keeps_rows, KeepsOrParts, KeepsSources, IsApart}
use Rattle.commands.specs.FileTransforms.{AreApart, AreOldOrWritten, IsOldOrWritten, HasSame, HaveSame, EndsFiles}
use Rattle.commands.specs.FileTransforms.{Leaves, Streams}
use Rattle.commands.specs.{Files.KeepsAll, Files.word_of, Files.TellsOne}

-- ---- All other files

pub many_names : {A : Type 0} (words : List (String A)) → length (names_of words) ≡ length words
many_names words = length-map words string_bytes

-- a name leads to no file of the first output partitions
abbrev pub IsNoneOf : (leads : List ℕ → List ℕ) → List (List ℕ) → ℕ → List ℕ → Type 0
IsNoneOf leads names count other = (output : ℕ) → output < count → output + 2 < length names →
    leads other ≢ leads (word_at names (output + 2))

-- all files but those of the first output partitions have the bytes that they had
abbrev pub KeepsAfter : (leads : List ℕ → List ℕ) → List (List ℕ) → ℕ → (before after : List ℕ → Option (List ℕ)) →
    Type 0
KeepsAfter leads names count before after = (other : List ℕ) → IsNoneOf leads names count other →
    after other ≡ before other

-- all files but that of an output partition, if it has one, have the bytes that they had
abbrev pub KeepsButOne : (leads : List ℕ → List ℕ) → List (List ℕ) → ℕ → (before after : List ℕ → Option (List ℕ)) →
    Type 0
KeepsButOne leads names output before after = (other : List ℕ) →
    (output + 2 < length names → leads other ≢ leads (word_at names (output + 2))) → after other ≡ before other

pub kept_more : {leads : List ℕ → List ℕ} (names : List (List ℕ)) (output : ℕ)
    {before mid after : List ℕ → Option (List ℕ)} → KeepsButOne leads names output mid after →
    KeepsAfter leads names output before mid → KeepsAfter leads names (output + 1) before after
kept_more names output kept earlier other none =
    kept other (none output (omega arith)) ∙ earlier other (λ q lt. none q (omega (arith, lt)))

pub kept_others : {leads : List ℕ → List ℕ} (names : List (List ℕ)) (count : ℕ)
    {before after : List ℕ → Option (List ℕ)} → KeepsAfter leads names count before after →
    KeepsOthers leads names before after
kept_others names count kept other none = kept other (λ q lt within. none q within)

-- the same after a file that could not be ended
pub kept_then_all : {leads : List ℕ → List ℕ} (names : List (List ℕ)) (count : ℕ)
    {before mid after : List ℕ → Option (List ℕ)} → KeepsAfter leads names count before mid → KeepsAll mid after →
    KeepsOthers leads names before after
kept_then_all names count kept all other none = all other ∙ kept other (λ q lt within. none q within)

-- one more output partition without rows
pub one_fresh : (outlets : List Outflow) {written : Option (List ℕ)} {now : List Outflow} {last : Outflow} →
    All IsFresh outlets → written ≡ Some [] → last ≡ outflow written (waiting 0 []) → now ≡ outlets ++ last ∷ [] →
    All IsFresh now
one_fresh outlets all none is same = rw same (All-push IsFresh outlets _ all (rw none at is))

-- the image and the file of the batches stay
pub sources_kept : {leads : List ℕ → List ℕ} (names : List (List ℕ)) {before after : List ℕ → Option (List ℕ)} →
    KeepsOrParts leads names before after → KeepsOthers leads names before after → KeepsSources names before after
sources_kept names (inl all) kept word first = all (word_at names word)
sources_kept names (inr apart) kept word first =
    kept (word_at names word) (λ output within e. apart output within word (omega (arith, first)) (sym e))

-- what is so after a call that changed no file
pub parts_after : (leads : List ℕ → List ℕ) (names : List (List ℕ)) {before mid after : List ℕ → Option (List ℕ)} →
    KeepsAll before mid → KeepsOrParts leads names mid after → KeepsOrParts leads names before after
parts_after leads names kept (inl all) = inl (λ other. all other ∙ kept other)
parts_after leads names kept (inr apart) = inr apart

-- ---- Which names lead to one file

pub when_ok : {X Y P : Type 0} (result : Result X Y) → P → OnOk result P
when_ok (Ok done) p = p
when_ok (Err failed) p = tt

pub told_apart : (leads : List ℕ → List ℕ) (one other : Endpoint) (a b : List ℕ) → word_of one ≡ Some a →
    word_of other ≡ Some b → TellsOne leads one other false → leads a ≢ leads b
told_apart leads one other a b one_is other_is told e =
    let said : (false ≡ true) ↔ (leads a ≡ leads b) = rw (one_is, other_is) at told in
    absurd (cc (said.1 e))

-- one word more leads to another file
pub apart_more : (leads : List ℕ → List ℕ) (names : List (List ℕ)) (word earlier : ℕ) →
    ((k : ℕ) → k < earlier → leads (word_at names word) ≢ leads (word_at names k)) →
    leads (word_at names word) ≢ leads (word_at names earlier) → (k : ℕ) → k < earlier + 1 →
    leads (word_at names word) ≢ leads (word_at names k)
apart_more leads names word earlier before here k lt = ⊎_elim (before k) there (cases_lt k earlier)
  where
    there : earlier ≤ k → leads (word_at names word) ≢ leads (word_at names k)
    there le = let same : k ≡ earlier = omega (arith, lt, le) in rw same here

-- the same of one output partition more
pub parts_more : (leads : List ℕ → List ℕ) (names : List (List ℕ)) (place : ℕ) →
    ((output : ℕ) → output + 2 < place → IsApart leads names (output + 2)) → IsApart leads names place →
    (output : ℕ) → output + 2 < place + 1 → IsApart leads names (output + 2)
parts_more leads names place before here output lt =
    ⊎_elim (before output) there (cases_lt (output + 2) place)
  where
    there : place ≤ output + 2 → IsApart leads names (output + 2)
    there le = let same : output + 2 ≡ place = omega (arith, lt, le) in rw same here

-- ---- One file after the other

pub held_more : {leads : List ℕ → List ℕ} (names : List (List ℕ)) (before after : List ℕ → Option (List ℕ))
    (index : ℕ) (done : List Outflow) (last : Outflow) → AreApart leads names → index ≡ length done →
    HaveWritten names done before →
    (index + 2 < length names → HasWritten last (after (word_at names (index + 2)))) →
    KeepsButOne leads names index before after → HaveWritten names (done ++ last ∷ []) after
held_more names before after index done last apart is earlier now kept output lt within =
    ⊎_elim old new (cases_lt output index)
  where
    old : output < index → HasWritten (output_at (done ++ last ∷ []) output) (after (word_at names (output + 2)))
    old below =
        let there : output < length done = omega (arith, below, is) in
        rw (
          get_or_append_left done (last ∷ []) (outflow None (waiting 0 [])) output there,
          kept (word_at names (output + 2))
              (λ in_names e. apart index in_names (output + 2) (omega (arith, below)) (sym e)),
        )
        (earlier output there within)

    new : index ≤ output → HasWritten (output_at (done ++ last ∷ []) output) (after (word_at names (output + 2)))
    new le =
        let same : output ≡ index = omega (arith, length_push done last, lt, le, is) in
        rw (get_or_push done last (outflow None (waiting 0 [])) output (omega (arith, same, is)), same)
        (now (rw same at within))

-- a file that can't be ended stays, and so do those after it
each_left : {leads : List ℕ → List ℕ} (names : List (List ℕ)) (before mid after : List ℕ → Option (List ℕ))
    (index : ℕ) (done rest : List Outflow) → AreApart leads names → index ≡ length done →
    HaveWritten names done mid → KeepsAfter leads names index before mid → KeepsAll mid after →
    AreOldOrWritten names (done ++ rest) before after
each_left names before mid after index done rest apart is written kept all output lt within =
    ⊎_elim old new (cases_lt output index)
  where
    old : output < index → (after (word_at names (output + 2)) ≡ before (word_at names (output + 2)))
        ⊎ HasWritten (output_at (done ++ rest) output) (after (word_at names (output + 2)))
    old below =
        let there : output < length done = omega (arith, below, is) in
        inr (rw (
          get_or_append_left done rest (outflow None (waiting 0 [])) output there,
          all (word_at names (output + 2)),
        ) (written output there within))

    new : index ≤ output → (after (word_at names (output + 2)) ≡ before (word_at names (output + 2)))
        ⊎ HasWritten (output_at (done ++ rest) output) (after (word_at names (output + 2)))
    new le = inl (all (word_at names (output + 2)) ∙ kept (word_at names (output + 2))
        (λ q below in_names e. apart output within (q + 2) (omega (arith, below, le)) e))

-- the same of all output partitions, of which the first ones were ended
pub each_failed : {leads : List ℕ → List ℕ} (names : List (List ℕ)) (before mid after : List ℕ → Option (List ℕ))
    (index : ℕ) (done outputs : List Outflow) → done ≡ take (length done) outputs → AreApart leads names →
    index ≡ length done → HaveWritten names done mid → KeepsAfter leads names index before mid → KeepsAll mid after →
    AreOldOrWritten names outputs before after
each_failed names before mid after index done outputs first apart is written kept all =
    let whole : done ++ drop (length done) outputs ≡ outputs =
    ap (λ (begin : List Outflow). begin ++ drop (length done) outputs) first
    ∙ take-append-drop (length done) outputs in
    rw whole at (each_left names before mid after index done (drop (length done) outputs) apart is written kept all)

pub each_written : (names : List (List ℕ)) (outputs : List Outflow) (before after : List ℕ → Option (List ℕ)) →
    HaveWritten names outputs after → AreOldOrWritten names outputs before after
each_written names outputs before after written output lt within = inr (written output lt within)

-- ---- Writers that were flushed

pub same_more : (ones others : List Outflow) (one other : Outflow) → HaveSame ones others → HasSame one other →
    HaveSame (ones ++ one ∷ []) (others ++ other ∷ [])
same_more ones others one other (count, same) last =
    (omega (arith, length_push ones one, length_push others other, count), each)
  where
    each : (output : ℕ) → output < length (ones ++ one ∷ []) →
        HasSame (output_at (ones ++ one ∷ []) output) (output_at (others ++ other ∷ []) output)
    each output lt = ⊎_elim old new (cases_lt output (length ones))
      where
        old : output < length ones →
            HasSame (output_at (ones ++ one ∷ []) output) (output_at (others ++ other ∷ []) output)
        old below = rw (
          get_or_append_left ones (one ∷ []) (outflow None (waiting 0 [])) output below,
          get_or_append_left others (other ∷ []) (outflow None (waiting 0 [])) output (omega (arith, below, count)),
        ) (same output below)

        new : length ones ≤ output →
            HasSame (output_at (ones ++ one ∷ []) output) (output_at (others ++ other ∷ []) output)
        new le =
            let is : output ≡ length ones = omega (arith, length_push ones one, lt, le) in
            rw (
              get_or_push ones one (outflow None (waiting 0 [])) output (omega (arith, is)),
              get_or_push others other (outflow None (waiting 0 [])) output (omega (arith, is, count)),
            ) last

-- what the files of flushed writers have the writers had
written_by : (names : List (List ℕ)) (ones others : List Outflow) (files : List ℕ → Option (List ℕ)) →
    HaveSame ones others → HaveWritten names others files → HaveWritten names ones files
written_by names ones others files (count, same) written output lt within held is =
    written output (omega (arith, lt, count)) within held (same output lt held is)

pub written_if : {X Y : Type 0} (result : Result X Y) (names : List (List ℕ)) (ones others : List Outflow)
    (files : List ℕ → Option (List ℕ)) → HaveSame ones others → OnOk result (HaveWritten names others files) →
    OnOk result (HaveWritten names ones files)
written_if (Ok done) names ones others files same written = written_by names ones others files same written
written_if (Err failed) names ones others files same written = written

pub each_by : (names : List (List ℕ)) (ones others : List Outflow) (before after : List ℕ → Option (List ℕ)) →
    HaveSame ones others → AreOldOrWritten names others before after → AreOldOrWritten names ones before after
each_by names ones others before after (count, same) each output lt within =
    ⊎_elim inl (λ written. inr (λ held is. written held (same output lt held is)))
    (each output (omega (arith, lt, count)) within)

pub each_old : (names : List (List ℕ)) (outputs : List Outflow) (files : List ℕ → Option (List ℕ)) →
    AreOldOrWritten names outputs files files
each_old names outputs files output lt within = inl refl

-- ---- What files have of rows

if_known : (file : Option (List ℕ)) (bytes : List ℕ) (P : List ℕ → Type 0) → IfSome file (λ known. known ≡ bytes) →
    P bytes → IfSome file P
if_known None bytes P h p = tt
if_known (Some known) bytes P h p = rw h p

-- Batches were pushed into output partitions that were fresh.
module _ (program : Program) (batches : List Batch) (fresh now : List Outflow) (law : AreRowsOfALog)
    (new : All IsFresh fresh) where
  -- A file that has what a writer had has whole batches of rows, and all that there are, unless the output is broken.
  has_rows : (q : ℕ) (file : Option (List ℕ)) (broken : Bool) (rest : Waiting) (rows : List Row) → q < length fresh →
      HasWritten (output_at now q) file → AreRows 0 q (length fresh) program 0 batches rows →
      WroteBatches (with_rows (output_at fresh q).waits rows) (output_at fresh q).written rest
      (output_at now q).written →
      (broken ≡ false → rest.rows ≡ []) → IfSome file (HasRows program batches (length fresh) q broken)
  has_rows q file broken rest rows within held are wrote all =
      of_written (output_at now q).written refl (rw (new q (outflow None (waiting 0 [])) within) at wrote)
    where
      of_written : (written : Option (List ℕ)) → (output_at now q).written ≡ written →
          WroteBatches (waiting 0 rows) (Some []) rest written →
          IfSome file (HasRows program batches (length fresh) q broken)
      of_written None is wrote = absurd wrote.written
      of_written (Some bytes) is wrote =
          if_known file bytes (HasRows program batches (length fresh) q broken) (held bytes is) (record {
            rows = rows;
            are_rows = λ name version. law 0 q (length fresh) version name program batches rows are;
            written = wrote.batches;
            rest = rest;
            are_written = wrote.are;
            bytes_are = wrote.written;
            all = all;
          })

  finished : (broken : Bool) → Finished (flow 0 0 fresh none_counted) program batches now → (q : ℕ)
      (file : Option (List ℕ)) → q < length fresh → HasWritten (output_at now q) file →
      IfSome file (HasRows program batches (length fresh) q broken)
  finished broken ended q file within held =
      let (rows, are, fills) = ended.each q within in
      has_rows q file broken _ rows within held are fills.0 (λ e. fills.1)

  stopped : (output : ℕ) → Broken (flow 0 0 fresh none_counted) program batches now output outlet.Full → (q : ℕ)
      (file : Option (List ℕ)) → q < length fresh → HasWritten (output_at now q) file →
      IfSome file (HasRows program batches (length fresh) q true)
  stopped output broken q file within held = ⊎_elim here there (cases_eq q output)
    where
      here : q ≡ output → IfSome file (HasRows program batches (length fresh) q true)
      here is =
          let (rows, are, stops) = broken.here in
          rw is (has_rows output file true stops.1 rows broken.within (rw is at held) are stops.2 (λ e. absurd cc))

      there : q ≢ output → IfSome file (HasRows program batches (length fresh) q true)
      there not =
          let (rows, are, fills) = broken.others q within not in
          has_rows q file true fills.0 rows within held are fills.1 (λ e. absurd cc)

  -- an output partition has too many rows
  overfills : (output : ℕ) → Broken (flow 0 0 fresh none_counted) program batches now output outlet.Full →
      Overfills program batches (length fresh) output
  overfills output broken =
      let (rows, are, stops) = broken.here in
      let many : IsTooMany (with_rows (waiting 0 []) rows) =
      rw (new output (outflow None (waiting 0 [])) broken.within) at stops.0 in (
        broken.within,
        rows,
        λ name version. law 0 output (length fresh) version name program batches rows are,
        omega (arith, many),
      )

-- The batches that bytes begin with were pushed, and the files have their rows.
as_transformed : {program : Program} {bytes : List ℕ} {outputs : ℕ} {files : ℕ → Option (List ℕ)}
    (result : Result (Unit {0}) StreamFault) (batches : List Batch) (rest : List ℕ) → AreBatches bytes batches rest →
    EndsAt program batches outputs result rest → ((q : ℕ) → q < outputs →
    IfSome (files q) (HasRows program batches outputs q (is_broken result))) →
    StreamsAs program bytes outputs (status_of result) files
as_transformed result batches rest begin ends each =
    inr (result, refl, record { batches = batches; rest = rest; begin = begin; ends = ends; each = each })

count_of : (program : Program) (bytes : List ℕ) (fresh : List Outflow) (result : Result (Unit {0}) StreamFault)
    (after : Inlet) (now : Flow) →
    TransformsAll program (inlet (Open []) (Some bytes) none_given) (flow 0 0 fresh none_counted) result after now →
    length now.outputs ≡ length fresh
count_of program bytes fresh (Err (fault.Transform (stop.Output output why))) after now does = does.4.2.count
count_of program bytes fresh (Err (fault.Transform stop.Memory)) after now does = does.4.2.outputs.count
count_of program bytes fresh (Err (fault.Transform stop.Full)) after now does = does.4.outputs.count
count_of program bytes fresh (Err (fault.Read why)) after now does = does.4.outputs.count
count_of program bytes fresh (Ok done) after now does = does.4.outputs.count

module _ (program : Program) (bytes : List ℕ) (fresh : List Outflow) (after : Inlet) (now : Flow)
    (law : AreRowsOfALog) (new : All IsFresh fresh) where
  -- an output partition is full only where all batches that were given were pushed
  broken_at_end : (batches : List Batch) (output : ℕ) → ((pushed : List Batch) × AreOf outlet.Full batches pushed
      × Broken (flow 0 0 fresh none_counted) program pushed now.outputs output outlet.Full) →
      Broken (flow 0 0 fresh none_counted) program batches now.outputs output outlet.Full
  broken_at_end batches output (pushed, are, broken) = rw (are.all refl) at broken

  -- the files have what the writers had
  streamed : (files : ℕ → Option (List ℕ)) →
      ((q : ℕ) → q < length fresh → HasWritten (output_at now.outputs q) (files q)) →
      (result : Result (Unit {0}) StreamFault) →
      TransformsAll program (inlet (Open []) (Some bytes) none_given) (flow 0 0 fresh none_counted) result after now →
      StreamsAs program bytes (length fresh) (status_of result) files
  streamed files held (Ok done) (batches, mid, gave, ends, all) =
      let (rest, begin, left) = gave.begins bytes refl in
      as_transformed (Ok done) batches rest begin (rw left at ends.0)
      (λ q lt. finished program batches fresh now.outputs law new false all.outputs q (files q) lt (held q lt))
  streamed files held (Err (fault.Read (read.Batch why))) (batches, mid, gave, ends, all) =
      let (rest, begin, left) = gave.begins bytes refl in
      as_transformed (Err (fault.Read (read.Batch why))) batches rest begin (rw left at ends.0)
      (λ q lt. finished program batches fresh now.outputs law new false all.outputs q (files q) lt (held q lt))
  streamed files held (Err (fault.Transform stop.Full)) (batches, mid, gave, (top, batch, reads), all) =
      let (rest, begin, left) = gave.begins bytes refl in
      let next = reads.1 rest left in
      as_transformed (Err (fault.Transform stop.Full)) batches rest begin
      (omega (arith, top), batch, next.0, next.1)
      (λ q lt. finished program batches fresh now.outputs law new false all.outputs q (files q) lt (held q lt))
  streamed files held (Err (fault.Transform (stop.Output output outlet.Full))) (batches, mid, gave, ends, cut) =
      let (rest, begin, left) = gave.begins bytes refl in
      let broken = broken_at_end batches output cut in
      as_transformed (Err (fault.Transform (stop.Output output outlet.Full))) batches rest begin
      (overfills program batches fresh now.outputs law new output broken)
      (λ q lt. stopped program batches fresh now.outputs law new output broken q (files q) lt (held q lt))
  streamed files held failed does = inl refl

  -- one file has what its writer had
  kept_rows : (result : Result (Unit {0}) StreamFault) → keeps_rows result ≡ true →
      TransformsAll program (inlet (Open []) (Some bytes) none_given) (flow 0 0 fresh none_counted) result after now →
      (q : ℕ) (before file : Option (List ℕ)) → q < length fresh → HasWritten (output_at now.outputs q) file →
      IsOldOrWritten program bytes (length fresh) q before file
  kept_rows (Ok done) keeps (batches, mid, gave, ends, all) q before file lt held =
      let (rest, begin, left) = gave.begins bytes refl in
      inr (
        batches,
        rest,
        false,
        begin,
        finished program batches fresh now.outputs law new false all.outputs q file lt held,
      )
  kept_rows (Err (fault.Read why)) keeps (batches, mid, gave, ends, all) q before file lt held =
      let (rest, begin, left) = gave.begins bytes refl in
      inr (
        batches,
        rest,
        false,
        begin,
        finished program batches fresh now.outputs law new false all.outputs q file lt held,
      )
  kept_rows (Err (fault.Transform stop.Full)) keeps (batches, mid, gave, ends, all) q before file lt held =
      let (rest, begin, left) = gave.begins bytes refl in
      inr (
        batches,
        rest,
        false,
        begin,
        finished program batches fresh now.outputs law new false all.outputs q file lt held,
      )
  kept_rows (Err (fault.Transform stop.Memory)) keeps does q before file lt held = absurd (cc keeps)
  kept_rows (Err (fault.Transform (stop.Output output outlet.Full))) keeps (batches, mid, gave, ends, cut) q before
      file lt held =
      let (rest, begin, left) = gave.begins bytes refl in
      let broken = broken_at_end batches output cut in
      inr (
        batches,
        rest,
        true,
        begin,
        stopped program batches fresh now.outputs law new output broken q file lt held,
      )
  kept_rows (Err (fault.Transform (stop.Output output outlet.Memory))) keeps does q before file lt held =
      absurd (cc keeps)
  kept_rows (Err (fault.Transform (stop.Output output outlet.Write))) keeps does q before file lt held =
      absurd (cc keeps)

-- rows that aren't kept are those of a call that failed
pub failed_unless_kept : (result : Result (Unit {0}) StreamFault) → keeps_rows result ≡ false →
    status_of result ≡ Failed
failed_unless_kept (Err (fault.Transform (stop.Output output outlet.Memory))) is = refl
failed_unless_kept (Err (fault.Transform (stop.Output output outlet.Write))) is = refl
failed_unless_kept (Err (fault.Transform (stop.Output output outlet.Full))) is = absurd (cc is)
failed_unless_kept (Err (fault.Transform stop.Full)) is = absurd (cc is)
failed_unless_kept (Err (fault.Transform stop.Memory)) is = refl
failed_unless_kept (Err (fault.Read why)) is = absurd (cc is)
failed_unless_kept (Ok done) is = absurd (cc is)

-- what is known of a stream of known bytes into fresh output partitions, whose files are the words from the third on
pub record IsStream (program : Program) (bytes : List ℕ) (fresh : List Outflow) (reader : Inlet) (start : Flow) : Type 0
  where
    pub law : AreRowsOfALog
    pub new : All IsFresh fresh
    pub reader_is : reader ≡ inlet (Open []) (Some bytes) none_given
    pub start_is : start ≡ flow 0 0 fresh none_counted

module _ {program : Program} {bytes : List ℕ} (names : List (List ℕ)) {fresh : List Outflow} {reader : Inlet}
    {start : Flow} (after : Inlet) (result : Result (Unit {0}) StreamFault) (now : Flow)
    (is : IsStream program bytes fresh reader start) (many : length fresh + 2 ≡ length names)
    (does : TransformsAll program reader start result after now) where
  all_done : TransformsAll program (inlet (Open []) (Some bytes) none_given) (flow 0 0 fresh none_counted) result after now
  all_done = rw (is.reader_is, is.start_is) at does

  long : length now.outputs ≡ length fresh
  long = count_of program bytes fresh result after now all_done

  count : length names - 2 ≡ length fresh
  count = omega (arith, many)

  -- the status of a stream whose files were ended, or 3
  wrote_files : (files : List ℕ → Option (List ℕ)) (status : Status) →
      (status ≡ Failed) ⊎ ((status ≡ status_of result) × HaveWritten names now.outputs files) →
      StreamsAs program bytes (length names - 2) status (λ output. files (word_at names (output + 2)))
  wrote_files files status (inl is_failed) = inl is_failed
  wrote_files files status (inr (same, held)) =
      rw (same, count) (streamed program bytes fresh after now is.law is.new _
      (λ q lt. held q (omega (arith, lt, long)) (omega (arith, lt, many))) result all_done)

  -- what its files have, which had these bytes before and when they were begun
  left_files : (before mid files : List ℕ → Option (List ℕ)) → KeepsAll before mid →
      EndsFiles names result now.outputs mid files → Leaves program bytes names before files
  left_files before mid files kept (inl all) output within = inl (all _ ∙ kept _)
  left_files before mid files kept (inr (keeps, each)) output within =
      ⊎_elim (λ same. inl (same ∙ kept _))
      (λ held. rw count (kept_rows program bytes fresh after now is.law is.new result keeps all_done output _ _
      (omega (arith, within, many)) held))
      (each output (omega (arith, within, many, long)) within)

  pub wrote : (before mid files : List ℕ → Option (List ℕ)) (status : Status) → KeepsAll before mid →
      (status ≡ Failed) ⊎ ((status ≡ status_of result) × HaveWritten names now.outputs files) →
      EndsFiles names result now.outputs mid files → Streams program bytes names status before files
  wrote before mid files status kept held ends =
      (wrote_files files status held, left_files before mid files kept ends)

-- nothing was written
pub wrote_none : (program : Program) (bytes : List ℕ) (names : List (List ℕ)) (status : Status)
    {before after : List ℕ → Option (List ℕ)} → status ≡ Failed → KeepsAll before after →
    Streams program bytes names status before after
wrote_none program bytes names status is_failed kept = (inl is_failed, λ output within. inl (kept _))
