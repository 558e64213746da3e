-- `end` hands out the allocator of a place that owns nothing else.
use Rattle.klog_c.proofs.Walks.{◌≡◌, refl, sym, subst, List, [], ◌∷◌, ◌++◌, Val, vstruct, vcons, vnil, of_list}
use Rattle.klog_c.proofs.Walks.{ent, ftrue, fsep, fact, tables, WpFn, Item, ‵, raw, ◌⊛◌, ◌$◌, ◌∵◌, !, qed, by, move}
use Rattle.klog_c.proofs.Walks.{keep, drop, join, split, rewrite, fsplit, fjoin, fpick, feq_l, suffices, done, whole}
use Rattle.klog_c.proofs.Walks.{sub, stop, fld, of_opd, returns, enter, alloc_all, pass_all, free_all, look_at, get}
use Rattle.klog_c.proofs.Walks.{get_in, sets, yes, ptr_val, rawptr_Lawful, heard, nothing, says, Stays, stay_dropped}
use Rattle.klog_c.proofs.Walks.{walk_of, ends_at, Goes-dropped, handle_tells, proved_at, both_tt}
use Rattle.std.specs.Prelude.{Option, None}
use Rattle.std.specs.contracts.alloc.Global as Heap
use Rattle.klog_c.specs.contracts.handle.Place as place
use Rattle.klog_c.proofs.AsBox.{E, FromPlace as From}
use Rattle.klog_c.specs.contracts.handle.Place.end as F
use Rattle.klog_c.proofs.handle.Place.end.Statement.{statement}
use Rattle.klog_c.proofs.handle.Place.end.Code as code

abbrev stayed : Stays (F.ended).signature.params (F.ended).kept
stayed = (stay_dropped From yes, tt)

pub end_spec : {M : Type 1} → statement M
end_spec 𝓤 𝓛 𝓜 𝓡 wired =
    let c = F.clauses 𝓛 𝓜.mem 𝓡.returns in let 𝓣 = tables 𝓤 𝓛.H 𝓜 𝓡 𝓡.env in let e = code.function in
    proved_at 𝓛 F.ended stayed c 𝓜 𝓡 (Goes-dropped 𝓛 0 From yes (λ κs x f. refl), tt) F.Key.name e
    (code.unfolded 𝓤 𝓛.H 𝓜 𝓡 wired) (λ z are.
    let Post = (walk_of 𝓛 F.ended stayed c).post z in let d = z.0.3.0 in let pv : Val = ptr_val d.at in
    let tp = (rawptr_Lawful 𝓛).typed d.at (pv ∷ []) refl in
    qed 𝓛 ((‵ ftrue ⊛ ‵ (fsep (place.the_row.own_val d z.0.4.0) ftrue)) ∷ raw (fact 𝓤 (d.object ≡ None)) ∷ []) ∵
    move ! (1 ∷ []) $ heard ! (d.object ≡ None) (λ is. split ! $ drop ! $ fsplit ! $
    rewrite ! 0 (λ (o : Option E.row.Denot). ‵ (place.the_row.own_val
    (record { at = d.at; alloc = d.alloc; object = o }) z.0.4.0)) is refl $
    fsplit ! $ fpick ! (λ vss. fsplit ! $ feq_l ! (λ ev. fsplit ! $
    feq_l ! (λ ep. fsplit ! $ handle_tells E.al ! d.alloc vss.1.0 (λ hv ea fa. keep ! (0 ∷ []) $
    let w : Val = vstruct (vcons pv (vcons hv vnil)) in
    let ws : z.0.4.0 ≡ w ∷ [] = subst (λ (us : List Val). z.0.4.0 ≡ vstruct (of_list (pv ∷ (us ++ []))) ∷ []) ea
    (subst (λ (us : List Val). z.0.4.0 ≡ vstruct (of_list (us ++ (vss.1.0 ++ []))) ∷ []) ep ev) in
    let Γ : List (Item 𝓤) = ‵ (Heap.the_row.own_val d.alloc (hv ∷ [])) ∷ [] in
    by ! (subst (λ (us : List Val). ent 𝓤 (types.Kit.⋆ 𝓛 Γ) (WpFn 𝓤 𝓛.H 𝓣.C 𝓣.Λ e (us ++ []) Post)) (sym ws)
    (qed 𝓛 Γ ∵ enter ! 𝓣.C 𝓣.Λ e (w ∷ []) _ $
    alloc_all ! (λ ls. pass_all ! refl ((both_tt _ _ tp.0.0 fa.0, (tp.0.1, (fa.1, tt))), tt) $
    sets ! (of_opd ! (get_in ! (fld ! refl (stop !)) (sub ! 1 refl (whole !)))) refl fa $
    sets ! (of_opd ! (get ! refl)) refl fa $ returns ! (look_at ! 0 refl) $ free_all ! refl $
    suffices ! _ (ends_at 𝓛 F.ended stayed c z hv d.alloc (tt, tt) (tt, tt)) $ says ! refl $
    nothing ! $ nothing ! $ fjoin ! $ join ! $ nothing ! $ join ! $ done !)))))))))
