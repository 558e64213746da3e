use Rattle.std.proofs.Common.{◌≡◌, ◌++◌, ◌-◌, ◌∙◌, length, drop, replicate, ap, arith}
use Rattle.std.proofs.lemmas.List.{drop-replicate}
use Rattle.std.specs.Int.{w32, to_le_bytes}
use Rattle.crc32c.proofs.Places.{window_at-register}
use Rattle.crc32c.proofs.window.put_register.Goals as goal

pub returns : goal.returns
returns g c =
    let space = c.args.space.now in
    let left : drop 4 space ≡ replicate (length space - 4) 0 =
    ap (drop 4) c.requires.empty ∙ drop-replicate 4 (length space) 0 in
    window_at-register g.row.REACH (length space - 4) c.args.r _ (omega arith) c.requires.word (omega arith)
    (rw (c.copy_from_slice.ensures.after, c.to_le_bytes.ensures) (ap (λ l. to_le_bytes w32 c.args.r ++ l) left))
