-- What is told of the programs of a list, line by line.
use Rattle.std.proofs.Common.{◌≡◌, ◌⊎◌, ℕ, ◌+◌, ◌<◌, List, [], ◌∷◌, ◌++◌, length, take, drop, Result, Ok, Err, Option}
use Rattle.std.proofs.Common.{Some, None, Bool, true, false, ◌||◌, refl, sym, ap, subst, inl, inr, ◌∙◌, append-nil}
use Rattle.std.proofs.Common.{arith}
use Rattle.std.proofs.{Math.Path.fun_ext, lemmas.List.Folds.list_any-append, lemmas.Slice.Zip.all_zipped_more}
use Rattle.std.proofs.{lemmas.Slice.Zip.AllZip-long, KnownBytes.Appends-nil, KnownBytes.Appends-trans}
use Rattle.std.proofs.Math.Bool.{or-false}
use Rattle.std.proofs.lemmas.List.{flat_map_more, drop_more, take_more, take-append-drop, length-take}
use Rattle.std.specs.{List.AllZip, Result.is_err, Io.KnownBytes.Appends}
use Rattle.machine_spec.specs.declared.helper.Table.{Table}
use Rattle.program_file.specs.declared.{fault.FileFault.FileFault, choice.GivenProgram.GivenProgram}
use Rattle.program_file.specs.Choice.{program_in}
use Rattle.verifier_spec.specs.{Loading.IsAccepted, Loading.IsRefusedWith, declared.fault.LoadFault.LoadFault}
use Rattle.script.specs.{declared.command.FileWord.TheVariants.File, Words.word_at}
use Rattle.commands.specs.declared.{given.Ungiven.Ungiven, host.Host.Host, run.Ended.Ended, stop.Stop.Stop}
use Rattle.commands.specs.declared.status.Status.{Status}
use Rattle.commands.specs.declared.given.Ungiven.TheVariants as ungiven
use Rattle.commands.specs.declared.status.Status.TheVariants.{Failed}
use Rattle.commands.specs.declared.stop.Stop.TheVariants as stop
use Rattle.commands.specs.{Appends.Prints, Files.KeepsAll, Hosts.KeepsInputs, Images.accepted_line}
use Rattle.commands.specs.{Given.Gives, Given.IsGiven, Stops.IsUnwritten}
use Rattle.commands.specs.Rechecks.{NamesProgram, Told, IsTold, ProgramTells, RefusesFile, StopsAt, LineTells}
use Rattle.commands.specs.Rechecks.{verdict_line}
use Rattle.commands.specs.Rechecks.{told_lines, has_refused, lines_of, Rechecks, status_of_list, RechecksAs}

-- ---- one program

pub accepted_told : (file text : List ℕ) (given : GivenProgram) (before after : Option (List ℕ))
    (accepted : IsAccepted (program_in given)) → text ≡ accepted_line (length accepted.code) →
    Appends before after (file ++ (32 ∷ text)) → ProgramTells file (Ok given) before after (Ok false)
accepted_told file text given before after accepted is printed =
    (Ok (length accepted.code), (accepted, refl), refl, rw is at printed)

pub refused_told : (file : List ℕ) (given : GivenProgram) (before : Option (List ℕ)) (fault : LoadFault) →
    IsRefusedWith (program_in given) fault → ProgramTells file (Ok given) before before (Ok true)
refused_told file given before fault is = (Err (Some fault), is, refl, Appends-nil before)

-- ---- one line

stops : (line : List ℕ) (before after : Option (List ℕ)) (reason : Stop) → IsUnwritten reason →
    StopsAt line reason × Prints before after [] (Err reason)
stops line before after stop.Output is = (tt, tt)
stops line before after stop.Memory is = (tt, tt)
stops line before after other is = absurd is

pub line_told : (files : List ℕ → Option (List ℕ)) (line file : List ℕ) (named : Option Table)
    (given : Result GivenProgram FileFault) (before after : Option (List ℕ)) (result : Result Bool Stop) →
    NamesProgram line file named → Gives files (File file) named given → ProgramTells file given before after result →
    LineTells files line before after result
line_told files line file named given before after (Ok refused) names (bytes, are, is) (verdict, says, same, put) = (
  record { file = file; named = named; bytes = bytes; verdict = verdict },
  record { names = names; bytes_are = are; verdict = rw is says },
  same,
  put,
)
line_told files line file named given before after (Err reason) names gives is = stops line before after reason is

-- the same of a line whose file gives no program
pub file_refused : (files : List ℕ → Option (List ℕ)) (line file : List ℕ) (named : Option Table) (why : Ungiven)
    (before : Option (List ℕ)) (result : Result Bool Stop) → NamesProgram line file named →
    IsGiven files file named (Err why) → RefusesFile file why result → LineTells files line before before result
file_refused files line file named (ungiven.File fault) before (Ok refused) names gives same =
    line_told files line file named (Err fault) before before (Ok refused) names gives
    (Err None, tt, same, Appends-nil before)
file_refused files line file named (ungiven.File fault) before (Err reason) names gives is =
    stops line before before reason is
file_refused files line file named (ungiven.Unread cause) before (Err reason) names gives (inl memory) =
    rw memory (tt, tt)
file_refused files line file named (ungiven.Unread cause) before (Err reason) names gives (inr unread) =
    rw unread ((named, names), Appends-nil before)
file_refused files line file named (ungiven.Unread cause) before (Ok refused) names gives is = absurd is

-- ---- the lines that are done

-- the first lines of a list are told and what is read stays; it is known whether a program was refused
pub record Rechecked {F I O E : Type 0} (bytes : F → List ℕ → Option (List ℕ)) (contents : O → Option (List ℕ))
    (old now : Host F I O E) (done : List (List ℕ)) (refused : Bool) : Type 0 where
  pub kept : KeepsInputs bytes old now
  pub told : List Told
  pub are_told : AllZip (IsTold (bytes old.files)) done told
  pub refused_is : refused ≡ has_refused told
  pub printed : Appends (contents old.stdout) (contents now.stdout) (told_lines told)

pub still_kept : {F I O E : Type 0} {bytes : F → List ℕ → Option (List ℕ)} {old now later : Host F I O E} →
    KeepsInputs bytes old now → KeepsInputs bytes now later → KeepsInputs bytes old later
still_kept first then = record { files = λ name. then.files name ∙ first.files name; stdin = then.stdin ∙ first.stdin }

one_refused : (told : List Told) (next : Told) {refused is_refused : Bool} → refused ≡ has_refused told →
    is_refused ≡ is_err next.verdict → (refused || is_refused) ≡ has_refused (told ++ next ∷ [])
one_refused told next same one =
    rw (same, one, list_any-append (λ (t : Told). is_err t.verdict) told (next ∷ []), or-false)

pub next_told : {F I O E : Type 0} {bytes : F → List ℕ → Option (List ℕ)} {contents : O → Option (List ℕ)}
    {old now later : Host F I O E} (lines : List (List ℕ)) (index : ℕ) {line : List ℕ} {refused is_refused : Bool} →
    Rechecked bytes contents old now (take index lines) refused → index < length lines → line ≡ word_at lines index →
    KeepsInputs bytes now later →
    LineTells (bytes now.files) line (contents now.stdout) (contents later.stdout) (Ok is_refused) →
    Rechecked bytes contents old later (take (index + 1) lines) (refused || is_refused)
next_told {bytes = bytes} {contents = contents} {old = old} {now = now} {later = later} lines index so_far within here
    kept (next, is, one, printed) =
    record {
      kept = still_kept so_far.kept kept;
      told = so_far.told ++ next ∷ [];
      are_told = rw (take_more lines index [] within, ← here)
          (all_zipped_more (IsTold (bytes old.files)) (take index lines) so_far.told _ next so_far.are_told (record {
            names = is.names;
            bytes_are = λ known there. is.bytes_are known (so_far.kept.files next.file ∙ there);
            verdict = is.verdict;
          }));
      refused_is = one_refused so_far.told next so_far.refused_is one;
      printed = subst (Appends (contents old.stdout) (contents later.stdout))
          (flat_map_more (λ (t : Told). verdict_line t.file t.verdict) [] so_far.told next)
          (Appends-trans _ (contents now.stdout) _ _ _ so_far.printed printed);
    }

-- ---- the end of a list

-- nothing is printed after a text
prints_no_more : (before between after : Option (List ℕ)) (text : List ℕ) (reason : Stop) →
    Appends before between text → Prints between after [] (Err reason) → Prints before after text (Err reason)
prints_no_more before between after text stop.Output printed nothing = tt
prints_no_more before between after text stop.Memory printed nothing = tt
prints_no_more before between after text other printed nothing =
    subst (Appends before after) (append-nil text) (Appends-trans before between after text [] printed nothing)

pub stopped : {F I O E : Type 0} {bytes : F → List ℕ → Option (List ℕ)} {contents : O → Option (List ℕ)}
    {old now : Host F I O E} (later : Host F I O E) (lines : List (List ℕ)) (index : ℕ) {line : List ℕ}
    {refused : Bool} {number : ℕ} {reason : Stop} → Rechecked bytes contents old now (take index lines) refused →
    index < length lines → line ≡ word_at lines index →
    LineTells (bytes now.files) line (contents now.stdout) (contents later.stdout) (Err reason) → number ≡ index + 1 →
    Rechecks (bytes old.files) lines (contents old.stdout) (contents later.stdout)
    (Err (record { line = number; stop = reason }))
stopped later lines index {line = line} so_far within here (why, printed) number_is =
    let told : length so_far.told ≡ index = AllZip-long _ (take index lines) so_far.told so_far.are_told
    ∙ omega (arith, length-take index lines) in
    record {
      done = take index lines;
      rest = drop index lines;
      lines_are = sym (take-append-drop index lines);
      told = so_far.told;
      are_told = so_far.are_told;
      ends = inr (
        line,
        drop (index + 1) lines,
        drop_more lines index [] within ∙ ap (λ (l : List ℕ). l ∷ drop (index + 1) lines) (sym here),
        number_is ∙ ap (λ (n : ℕ). n + 1) (sym told),
        why,
      );
      printed = prints_no_more _ _ _ _ _ so_far.printed printed;
    }

-- What was told of the lines of a text is told of the list that it is, where the known files are the same.
pub of_list : {files now : List ℕ → Option (List ℕ)} {list text : List ℕ} {before after : Option (List ℕ)}
    {result : Result Bool Ended} {status : Status} → KeepsAll files now → text ≡ list →
    Rechecks now (lines_of text) before after result → (status ≡ status_of_list result) ⊎ (status ≡ Failed) →
    RechecksAs files list status before after
of_list {result = result} kept same told status_is = inr (result, rw (fun_ext kept, same) at told, status_is)
