use Rattle.std.proofs.Common.{◌≡◌, ◌++◌, string_bytes}
use Rattle.explain.specs.{Texts.texts_below, Ways.lines_where, Ways.is_selected}
use Rattle.explain.proofs.listing.push_first.Given as goal

abbrev pub invariant-loop-k : goal.invariant-loop-k
invariant-loop-k l =
    string_bytes l.text ≡ string_bytes l.initial.text
    ++ texts_below l.k (lines_where (is_selected l.states l.selection) l.code l.states)
