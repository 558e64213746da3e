-- What the walks of this crate cite, and what two of them share.
pub use mathlib.Core.Path.{◌≡◌, refl, sym, subst, ap, ◌∙◌}
pub use mathlib.Core.List.{List, [], ◌∷◌, ◌++◌}
pub use mathlib.Core.Bool.{Bool, true, false, ◌&&◌}
pub use lib.Dec.{T}
pub use mir.Syntax.{Args, Body, a_type, assign, copy, dcons, dnil, place, return, rv_opd, seq}
pub use mir.MapTy.{inst_fn}
pub use mir.Val.{Val, vstruct, vcons, vnil, vnull, vptr, of_list, has_ty, WT}
pub use base.Logic.{ent, emp, id⊢, never, fst∗}
pub use base.Fml.{ftrue, fsep, flft}
pub use contract.BorrowLft.{◌⊑◌}
pub use contract.Monad.{fact}
pub use contract.Running.{tables}
pub use prog.Wp.{WpFn}
pub use types.Logic.{sem}
pub use types.Kit.{Item, ‵, raw, ◌⊛◌, some, later, at_ret, ◌$◌, ◌∵◌, !, qed, by, move, keep, drop}
pub use types.Kit.{use1, join, split, split3, pick, rewrite, fsplit, fjoin, fpick, fpack, feq_i, feq_l, suffices, await}
pub use types.Kit.{done}
pub use types.Part.{whole, sub, agg}
pub use types.Run.{stop, fld, no_more, and_then, of_opd, lit, returns, enter, first, blocks, exec}
pub use types.ByLocal.{alloc_all, pass_all, free_all, look_at, get, get_in, sets, lands_last, lands_as, env}
pub use denote.RattleType.{RattleType, Valss}
pub use denote.Builtin.{RawPtr}
pub use denote.Exit.{yes, no}
pub use denote.Param.{bounded}
pub use denote.RawPtr.{Ptr, block_ptr, null_ptr, ptr_val, in_a_block, rawptr_Lawful}
pub use denote.Signature.{plain, type_at}
pub use denote.Steps.{heard, nothing, only}
pub use denote.Struct.Struct.{within}
pub use denote.Struct.Owning.{shape, to}
pub use denote.Struct.Tuple.{Tuple}
pub use denote.Triple.Call.{calls_at, calls_at_last}
pub use denote.Triple.Clauses.{Ended}
pub use denote.Triple.Spec.{triple_of}
pub use denote.Triple.Table.{framed}
pub use denote.Triple.Walked.{says, Stays, stay_dropped, walk_of, ends_at, Goes-dropped}
pub use Rattle.std.specs.Box.Ownership.{box_owns}
pub use Rattle.std.proofs.alloc.Calls.{token, handle_tells, Goes-blank}
pub use Rattle.std.proofs.raw_atomic.Walks.{proved_at}
pub use Rattle.std.proofs.BoxSteps.Form.{Bx, D, τ, R, P, B, args, box_ty, word, box_typed}
pub use Rattle.std.proofs.BoxSteps.Steps.{box_out, box_in}

-- a struct of two fields has its type if they have theirs
pub both_tt : (x y : Bool) → T x → T y → T (x && (y && true))
both_tt true true s t = tt
both_tt true false s t = absurd t
both_tt false y s t = absurd s
