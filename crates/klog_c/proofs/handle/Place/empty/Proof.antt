-- `empty` makes a place that owns nothing of its pointer.
use Rattle.klog_c.proofs.Walks.{refl, sym, subst, List, [], ◌∷◌, ◌++◌, true, Val, vstruct, vcons, vnil, vnull}
use Rattle.klog_c.proofs.Walks.{ent, emp, ftrue, fsep, tables, WpFn, Item, ‵, raw, ◌⊛◌, ◌$◌, ◌∵◌, !, qed, by, move}
use Rattle.klog_c.proofs.Walks.{drop, join, split, fsplit, fjoin, fpack, feq_i, suffices, done, agg, no_more, and_then}
use Rattle.klog_c.proofs.Walks.{lit, returns, enter, alloc_all, pass_all, free_all, look_at, get, sets, Valss, RawPtr}
use Rattle.klog_c.proofs.Walks.{yes, null_ptr, plain, nothing, within, shape, to, says, Stays, stay_dropped, walk_of}
use Rattle.klog_c.proofs.Walks.{ends_at, Goes-dropped, handle_tells, proved_at, both_tt}
use Rattle.std.proofs.Common.{arith, None}
use Rattle.std.specs.contracts.alloc.Global as Heap
use Rattle.klog_c.proofs.AsBox.{E}
use Rattle.klog_c.specs.contracts.handle.Place as place
use Rattle.klog_c.specs.contracts.handle.Place.empty as F
use Rattle.klog_c.proofs.handle.Place.empty.Statement.{statement}
use Rattle.klog_c.proofs.handle.Place.empty.Code as code

abbrev stayed : Stays (F.ended).signature.params (F.ended).kept
stayed = (stay_dropped (plain (λ _. Heap.the_row)) yes, tt)

pub empty_spec : {M : Type 1} → statement M
empty_spec 𝓤 𝓛 𝓜 𝓡 wired =
    let c = F.clauses 𝓛 𝓜.mem 𝓡.returns in let 𝓣 = tables 𝓤 𝓛.H 𝓜 𝓡 𝓡.env in let e = code.function in
    proved_at 𝓛 F.ended stayed c 𝓜 𝓡 (Goes-dropped 𝓛 0 (plain (λ _. Heap.the_row)) yes (λ κs x f. refl), tt)
    F.Key.name e (code.unfolded 𝓤 𝓛.H 𝓜 𝓡 wired) (λ z are.
    let Post = (walk_of 𝓛 F.ended stayed c).post z in let a = z.0.3.0 in
    let made : place.the_row.Denot = record { at = null_ptr; alloc = a; object = None } in
    qed 𝓛 ((‵ ftrue ⊛ ‵ (fsep (Heap.the_row.own_val a z.0.4.0) ftrue)) ∷ raw (emp 𝓤) ∷ []) ∵ split ! $
    drop ! $ fsplit ! $
    handle_tells E.al ! a z.0.4.0 (λ hv ea fa. move ! (1 ∷ []) $ drop ! $ move ! (1 ∷ []) $ drop ! $
    let w : Val = vstruct (vcons vnull (vcons hv vnil)) in
    let Γ : List (Item 𝓤) = ‵ (Heap.the_row.own_val a (hv ∷ [])) ∷ [] in
    by ! (subst (λ (us : List Val). ent 𝓤 (types.Kit.⋆ 𝓛 Γ) (WpFn 𝓤 𝓛.H 𝓣.C 𝓣.Λ e (us ++ []) Post)) (sym ea)
    (qed 𝓛 Γ ∵ enter ! 𝓣.C 𝓣.Λ e (hv ∷ []) _ $ alloc_all ! (λ ls. pass_all ! refl (fa, tt) $
    sets ! (agg ! (and_then ! (lit ! (tt {0})) (and_then ! (get ! refl) (no_more !)))) refl
    (both_tt true _ (tt {0}) fa.0, (record { fits = omega arith }, (fa.1, tt))) $ returns ! (look_at ! 0 refl) $
    free_all ! refl $
    nothing ! $ nothing ! $ move ! (2 ∷ 0 ∷ []) $ fjoin ! $ feq_i ! (List Val) (vnull ∷ []) (vnull ∷ []) refl $
    fjoin ! $ feq_i ! (List Val) (w ∷ []) (w ∷ []) refl $ fjoin ! $
    fpack ! (Valss (RawPtr ∷ Heap.the_row ∷ [])) (within (shape place.the_type) (to place.the_type made) (w ∷ []))
    (vnull ∷ [], (hv ∷ [], tt)) $ fjoin ! $
    suffices ! _ (ends_at 𝓛 F.ended stayed c z w made (tt, tt) (tt, tt)) $ says ! refl $
    nothing ! $ nothing ! $ fjoin ! $ join ! $ nothing ! $ join ! $ done !)))))
