-- The lines of a report, each with its line feed.
use Rattle.std.specs.Prelude.{ℕ, List, [], ◌∷◌, ◌++◌, length, codes, decimal}
use Rattle.std.specs.List.{flat_map}
use Rattle.script.specs.Texts.{row_line}
use Rattle.report.specs.{Holdings.Held, Totals.Tallied, Snapshots.Gathered}

-- `out Q in I done D rows R`
abbrev pub out_line : ℕ → ℕ → ℕ → ℕ → List ℕ
out_line output input done rows =
    codes "out " ++ (decimal output
    ++ (codes " in " ++ (decimal input
    ++ (codes " done " ++ (decimal done ++ (codes " rows " ++ (decimal rows ++ 10 ∷ [])))))))

-- `in I items M records T unprogrammed U kept K`
abbrev pub items_line : ℕ → ℕ → ℕ → ℕ → ℕ → List ℕ
items_line input items records unprogrammed kept =
    codes "in " ++ (decimal input ++ (codes " items "
    ++ (decimal items ++ (codes " records "
    ++ (decimal records ++ (codes " unprogrammed " ++ (decimal unprogrammed
    ++ (codes " kept " ++ (decimal kept ++ 10 ∷ [])))))))))

-- `in I reject CODE count N`
abbrev pub reject_line : ℕ → ℕ → ℕ → List ℕ
reject_line input code count = codes "in "
    ++ (decimal input ++ (codes " reject " ++ (decimal code ++ (codes " count " ++ (decimal count ++ 10 ∷ [])))))

-- the lines of the rows that an output partition holds of an input partition
abbrev pub held_rows : Held → List ℕ
held_rows h = flat_map (row_line h.output) h.rows

-- the lines of the rows that an output partition holds, by input partition
abbrev pub output_rows : List Held → List ℕ
output_rows holdings = flat_map held_rows holdings

-- the line of how many items are done, and how many rows they have
abbrev pub held_line : Held → List ℕ
held_line h = out_line h.output h.done.partition (length h.done.items) (length h.rows)

-- those lines of an output partition, by input partition
abbrev pub output_lines : List Held → List ℕ
output_lines holdings = flat_map held_line holdings

-- the lines of how many records each code rejected, by rising code
abbrev pub rejects_text : ℕ → List (ℕ × ℕ) → List ℕ
rejects_text input rejects = flat_map (λ listed. reject_line input listed.0 listed.1) rejects

-- the lines of what became of the records of an input partition
abbrev pub tally_text : Tallied → List ℕ
tally_text t =
    items_line t.first.partition (length t.first.items) t.totals.records t.totals.unprogrammed t.totals.kept
    ++ rejects_text t.first.partition t.totals.rejects

-- The rows, by output and by input partition; then, in the same order, how much is held; then, by input partition, what
-- became of the records.
abbrev pub report_text : Gathered → List ℕ
report_text s = flat_map output_rows s.outputs ++ (flat_map output_lines s.outputs ++ flat_map tally_text s.inputs)
