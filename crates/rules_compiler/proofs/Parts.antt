-- Parts of a record: the register that names one, and which bytes it has.
use Rattle.std.proofs.Common.{◌≡◌, ℕ, ◌+◌, ◌-◌, ◌*◌, ◌/◌, ◌%◌, ◌^◌, ◌≤◌, pos, not}
use Rattle.std.proofs.Common.{◌&&◌, ◌==◌, nat_lt, if◌then◌else◌, List, [], ◌∷◌, ◌++◌, length, slice_get, Option, Some, None}
use Rattle.std.proofs.Common.{is_none, option_map, unwrap_or, refl, sym, ap, ◌∙◌, subst, arith, ⊎_elim}
use Rattle.std.specs.{Option.option_map_or, List.position_or_len, Str.bytes_eq}
use Rattle.std.proofs.lemmas.Bool.{ne_eqb, lt-ltb, le-ltb, cases_lt}
use Rattle.std.proofs.lemmas.{Option.slice_get_past, List.Folds.find_at}
use Rattle.wire_spec.specs.declared.{record.Header.Header, record.Record.Record}
use Rattle.machine_spec.specs.declared.{instruction.Instruction.Instruction, instruction.Region.Region}
use Rattle.machine_spec.specs.declared.part.Part.TheVariants.{HeaderValue}
use Rattle.machine_spec.specs.declared.{helper.TheConstants.HELPERS, instruction.Instruction.TheVariants.Call}
use Rattle.machine_spec.specs.declared.operation.Width.TheVariants.{Bits64}
use Rattle.machine_spec.specs.declared.operation.Operation.TheVariants.{Add}
use Rattle.machine_spec.specs.Signatures.{helper_among}
use Rattle.machine_spec.specs.{Parts.part_numbered, Parts.part_in, Parts.header_answer, Parts.length_answer}
use Rattle.machine_spec.specs.Values.{Number, immediate, result_of}
use Rattle.machine_spec.specs.Machine.{Input, State, state_after}
use Rattle.verifier_spec.specs.declared.{state.Abs.Abs, state.Abstract.Abstract, state.StackSet.StackSet}
use Rattle.verifier_spec.specs.{StackSets.no_places, Transfer.falls_to, Checks.failed_check, StandsFor.IsInput}
use Rattle.verifier_spec.proofs.Safety.{failed_from}
use Rattle.rules.specs.declared.rule.Part.{Part}
use Rattle.rules.specs.declared.rule.Part.TheVariants as part
use Rattle.rules.specs.Meaning.{header_named, header_bytes, part_bytes, is_absent, is_null}
use Rattle.rules.specs.Limits.{IsText, FitsPart}
use Rattle.rules_compiler.specs.declared.pieces.TheConstants.{NEAR}
use Rattle.rules_compiler.specs.Pieces.{word_count, text_code, header_call, header_number, part_code}
use Rattle.rules_compiler.proofs.Walks.{run_list}
use Rattle.machine_spec.proofs.PartAnswers.{value_part}
use Rattle.rules_compiler.proofs.Ready.{ReadyWith, small_immediate}
use Rattle.rules_compiler.proofs.Texts.{LeadsTo, leads_both, runs_both, shape, words_of, named_rightly, AreBytes, HasText, text_has}
use Rattle.rules_compiler.proofs.Texts.{near_stands, text_read, text_leads, text_set, bytes_of_text}

-- ---- flows

-- r6 has a number behind the code of a part
pub record PartFlow (p : Part) : Type 0 where
  pub answer : Abs
  pub low : ℕ
  pub high : ℕ
  pub places : StackSet
  pub leads : LeadsTo (part_code p) (shape Abs.None Abs.None Abs.None Abs.None Abs.None Abs.None Abs.None Abs.None no_places)
      (shape answer Abs.None Abs.None Abs.None Abs.None Abs.None (Abs.Num low high) Abs.None places)

module _ (key : List ℕ) (few : length key ≤ 255) where
  abbrev places_of : StackSet
  places_of = words_of no_places (word_count (length key))

  abbrev count : ℕ
  count = immediate Bits64 (pos (length key))

  abbrev named : Abstract
  named = shape Abs.None (Abs.Addr Region.Stack (pos 256) (pos 256)) (Abs.Num (immediate Bits64 (pos (length key)))
      (immediate Bits64 (pos (length key)))) Abs.None Abs.None Abs.None Abs.None Abs.None
      (words_of no_places (word_count (length key)))

  search_check : failed_check HELPERS (Call (pos 19)) named ≡ None
  unfolding helper_among
  search_check = failed_from HELPERS (Call (pos 19)) named (record {
    frame = refl;
    helper = refl;
    unset = refl;
    operands = refl;
    base = refl;
    condition = refl;
    record_write = refl;
    record_bounds = refl;
    stack_bounds = refl;
    stack_unset = refl;
    argument = rw (named_rightly 256 named (immediate Bits64 (pos (length key))) (length key)
        (small_immediate (length key) (omega arith)) (omega arith)
        (λ q low high. text_set 256 no_places (length key) q (omega arith) few low high)) refl;
    exit = refl;
  })

  abbrev plain_shape : Abs → Abs → Abstract
  plain_shape r0 r6 = shape r0 Abs.None Abs.None Abs.None Abs.None Abs.None r6 Abs.None
      (words_of no_places (word_count (length key)))

  call_leads : LeadsTo (Call (pos 19) ∷ []) named (plain_shape (Abs.Num 0 16) Abs.None)
  unfolding falls_to helper_among
  call_leads = record { passed = rw search_check refl; is = refl }

  number_leads : LeadsTo header_number (plain_shape (Abs.Num 0 16) Abs.None)
      (plain_shape (Abs.Num 0 16) (Abs.Num 3 8589934593))
  unfolding failed_check falls_to
  number_leads = record { passed = refl; is = refl }

  search_leads : LeadsTo (Call (pos 19) ∷ header_number) named (plain_shape (Abs.Num 0 16) (Abs.Num 3 8589934593))
  search_leads = leads_both (Call (pos 19) ∷ []) header_number named (plain_shape (Abs.Num 0 16) Abs.None)
      (plain_shape (Abs.Num 0 16) (Abs.Num 3 8589934593)) call_leads number_leads

  name_leads : LeadsTo (header_call (length key))
      (shape Abs.None Abs.None Abs.None Abs.None Abs.None Abs.None Abs.None Abs.None
      (words_of no_places (word_count (length key)))) named
  unfolding failed_check falls_to
  name_leads = record { passed = refl; is = refl }

  header_flow : PartFlow (part.Header key)
  unfolding part_code
  header_flow = record {
    answer = Abs.Num 0 16;
    low = 3;
    high = 8589934593;
    places = words_of no_places (word_count (length key));
    leads = leads_both (text_code NEAR key) (header_call (length key) ++ (Call (pos 19) ∷ header_number))
        (shape Abs.None Abs.None Abs.None Abs.None Abs.None Abs.None Abs.None Abs.None no_places)
        (plain_shape Abs.None Abs.None) (plain_shape (Abs.Num 0 16) (Abs.Num 3 8589934593))
        (text_leads near_stands Abs.None Abs.None Abs.None Abs.None Abs.None Abs.None Abs.None Abs.None key few no_places)
        (leads_both (header_call (length key)) (Call (pos 19) ∷ header_number) (plain_shape Abs.None Abs.None) named
        (plain_shape (Abs.Num 0 16) (Abs.Num 3 8589934593)) name_leads search_leads);
  }

pub part_flow : (p : Part) → FitsPart IsText p → PartFlow p
unfolding part_code failed_check falls_to
part_flow part.Value fits = record {
  answer = Abs.None;
  low = 0;
  high = 0;
  places = no_places;
  leads = record { passed = refl; is = refl };
}
part_flow part.Key fits = record {
  answer = Abs.None;
  low = 1;
  high = 1;
  places = no_places;
  leads = record { passed = refl; is = refl };
}
part_flow (part.Header key) fits = header_flow key fits.few

-- ---- what a part is

-- none where there is no such part, else its bytes, if it has some
abbrev pub found : Part → Record → Option (Option (List ℕ))
found part.Value given = Some given.value
found part.Key given = Some given.key
found (part.Header key) given = option_map (λ (h : Header). h.value) (header_named key given.headers)

pub bytes_found : (p : Part) (given : Record) → part_bytes p given ≡ unwrap_or (found p given) None
bytes_found part.Value given = refl
bytes_found part.Key given = refl
bytes_found (part.Header key) given = from (header_named key given.headers)
  where
    from : (h : Option Header) → header_bytes h ≡ unwrap_or (option_map (λ (h : Header). h.value) h) None
    from None = refl
    from (Some h) = refl

absent_found : (o : Option (Option (List ℕ))) → (length_answer o == 0) ≡ is_none o
absent_found None = refl
absent_found (Some None) = refl
absent_found (Some (Some bytes)) = ne_eqb (length bytes + 2) 0 (λ e. omega arith)

pub absent_is : (p : Part) (given : Record) → (length_answer (found p given) == 0) ≡ is_absent p given
absent_is part.Value given = absent_found (Some given.value)
absent_is part.Key given = absent_found (Some given.key)
absent_is (part.Header key) given = absent_found (found (part.Header key) given) ∙ from (header_named key given.headers)
  where
    from : (h : Option Header) → is_none (option_map (λ (h : Header). h.value) h) ≡ is_none h
    from None = refl
    from (Some h) = refl

null_found : (o : Option (List ℕ)) → (length_answer (Some o) == 1) ≡ is_none o
null_found None = refl
null_found (Some bytes) = ne_eqb (length bytes + 2) 1 (λ e. omega arith)

pub null_is : (p : Part) (given : Record) → (length_answer (found p given) == 1) ≡ is_null p given
null_is part.Value given = null_found given.value
null_is part.Key given = null_found given.key
null_is (part.Header key) given = from (header_named key given.headers)
  where
    from : (h : Option Header) → (length_answer (option_map (λ (h : Header). h.value) h) == 1)
        ≡ (not (is_none h) && is_none (header_bytes h))
    from None = refl
    from (Some h) = null_found h.value

-- ---- the number of a part

-- r6 has the number of the part
pub record PartRun (input : Input) (added : List Header) (p : Part) (s : State) : Type 0 where
  pub number : ℕ
  pub ready : ReadyWith input added (run_list input (part_code p) s)
  pub is : (run_list input (part_code p) s).registers 6 ≡ Number number
  pub names : part_in input.given (part_numbered number) ≡ found p input.given

-- what the code of a header makes of the position that is answered
abbrev number_from : ℕ → ℕ
number_from answer = ((answer % 2 ^ 32 + (2 ^ 32 - 1)) % 2 ^ 32 * 2 % 2 ^ 64 + 3) % 2 ^ 64

numbered : (q : ℕ) → part_numbered (2 * q + 3) ≡ HeaderValue q
numbered q =
    let a = ne_eqb (2 * q + 3) 0 (λ e. omega arith) in
    let b = ne_eqb (2 * q + 3) 1 (λ e. omega arith) in
    let c = ne_eqb ((2 * q + 3) % 2) 0 (λ e. omega arith) in
    let d : (2 * q + 3) / 2 - 1 ≡ q = omega arith in
    rw (a, b, c, d) refl

module _ (given : Record) (few : length given.headers ≤ 16) (key : List ℕ) where
  abbrev first : ℕ
  first = position_or_len (λ (h : Header). bytes_eq h.key key) given.headers

  found_is : found (part.Header key) given ≡ option_map (λ (h : Header). h.value)
      (slice_get given.headers (position_or_len (λ (h : Header). bytes_eq h.key key) given.headers))
  found_is = ap (option_map (λ (h : Header). h.value)) (find_at (λ (h : Header). bytes_eq h.key key) given.headers)

  named_part : (q : ℕ) → part_in given (part_numbered (number_from
      (option_map_or (λ k. k + 1) (if nat_lt q (length given.headers) then Some q else None) 0)))
      ≡ option_map (λ (h : Header). h.value) (slice_get given.headers q)
  named_part q = ⊎_elim
      (λ there.
      let test = lt-ltb q (length given.headers) there in
      let number : number_from (q + 1) ≡ 2 * q + 3 = omega arith in
      rw (test, number, numbered q) refl)
      (λ past.
      let test = le-ltb q (length given.headers) past in
      let none = slice_get_past given.headers q past in
      let further = slice_get_past given.headers 4294967295 (omega arith) in
      rw (test, none, further) refl)
      (cases_lt q (length given.headers))

  header_names : part_in given (part_numbered (number_from (header_answer given key))) ≡ found (part.Header key) given
  header_names = named_part (position_or_len (λ (h : Header). bytes_eq h.key key) given.headers) ∙ sym found_is

module _ (input : Input) (added : List Header) (key : List ℕ) (t s : State)
    (has : HasText input added 256 t s key (word_count (length key))) (few : length key ≤ 255) where
  abbrev search : List Instruction
  search = header_call (length key) ++ (Call (pos 19) ∷ header_number)

  searched : (run_list input (header_call (length key) ++ (Call (pos 19) ∷ header_number)) t).registers 6
      ≡ Number (number_from (header_answer input.given key))
  unfolding state_after helper_among
  searched =
      let frame = has.ready.frame_is in
      let text = text_read 256 input t.stack key (immediate Bits64 (pos (length key)))
      (result_of Bits64 Add (t.registers 10) (Number (immediate Bits64 NEAR))) (Number (immediate Bits64 (pos (length key))))
      has.holds (rw frame refl) refl (small_immediate (length key) (omega arith)) in
      ap (λ (bytes : List ℕ). Number (number_from (header_answer input.given bytes))) text

  search_ready : ReadyWith input added (run_list input (header_call (length key) ++ (Call (pos 19) ∷ header_number)) t)
  unfolding state_after helper_among
  search_ready = assumption has.ready

pub part_run : (input : Input) → IsInput input → {added : List Header} → (p : Part) → FitsPart IsText p → (s : State) →
    ReadyWith input added s → PartRun input added p s
unfolding part_code state_after
part_run input given {added = added} part.Value fits s ready =
    record { number = 0; ready = assumption ready; is = refl; names = refl }
part_run input given {added = added} part.Key fits s ready =
    record { number = 1; ready = assumption ready; is = refl; names = refl }
part_run input given {added = added} (part.Header key) fits s ready =
    let t = run_list input (text_code NEAR key) s in
    let has = text_has input near_stands key (bytes_of_text key fits) fits.few s ready in
    let both = runs_both input (text_code NEAR key) (header_call (length key) ++ (Call (pos 19) ∷ header_number)) s in
    record {
      number = number_from (header_answer input.given key);
      ready = subst (ReadyWith input added) (sym both) (search_ready input added key t s has fits.few);
      is = ap (λ (u : State). u.registers 6) both ∙ searched input added key t s has fits.few;
      names = header_names input.given given.limits.headers.few key;
    }

-- the bytes of a part are some
pub found_below : (input : Input) → IsInput input → (p : Part) →
    AreBytes (unwrap_or (unwrap_or (found p input.given) None) [])
found_below input given part.Value = given.value
found_below input given part.Key = given.key
found_below input given (part.Header key) =
    let q = position_or_len (λ (h : Header). bytes_eq h.key key) input.given.headers in
    let same = ap (λ (h : Option Header). unwrap_or (unwrap_or (option_map (λ (h : Header). h.value) h) None) [])
    (find_at (λ (h : Header). bytes_eq h.key key) input.given.headers)
    ∙ value_part (slice_get input.given.headers q) in
    subst AreBytes (sym same) (given.headers.values q)
