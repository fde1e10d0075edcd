-- One byte more: it ends the line, begins a character, or goes on with one.
use Rattle.std.proofs.Common.{rules, ◌≡◌, ◌<◌, true, false, length, get_or, arith}
use Rattle.std.proofs.lemmas.List.Sums.{count_by_more_no, count_by_more_yes}
use Rattle.nvme_workload.specs.Places.{is_newline, begins_character}
use Rattle.nvme_workload.proofs.Lines.{column_of_newline, column_of_first, column_of_later}
use Rattle.nvme_workload.proofs.place.behind.Goals as goal
use Rattle.nvme_workload.proofs.place.behind.Goals.{then-byte-eq10, else-byte-eq10+then-begins_character, else-byte-eq10+else-begins_character}

pub loop-byte-preserved : goal.loop-byte-preserved
loop-byte-preserved c =
    let i = c.loop-byte.byte-index in
    let bytes = c.args.bytes.now in
    let inv = c.loop-byte.invariant in
    let there : i < length bytes = search rules in
    elim c.if-byte-eq10.branch [
      | then-byte-eq10 w ↦
          let ends : is_newline (get_or bytes i 0) ≡ true = search rules in
          let more = count_by_more_yes is_newline bytes i 0 there ends in
          let column = column_of_newline bytes i there ends in record {
            line = omega (arith, w.line-is, inv.line, more);
            column = omega (arith, w.column-is, column);
            few_lines = omega (arith, w.line-is, inv.few_lines);
            few_columns = omega (arith, w.column-is);
          }
      | else-byte-eq10+then-begins_character w ↦
          let on : is_newline (get_or bytes i 0) ≡ false = search rules in
          let begins : begins_character (get_or bytes i 0) ≡ true = search rules in
          let more = count_by_more_no is_newline bytes i 0 there on in
          let column = column_of_first bytes i there on begins in record {
            line = omega (arith, w.line-is, inv.line, more);
            column = omega (arith, w.column-is, inv.column, column);
            few_lines = omega (arith, w.line-is, inv.few_lines);
            few_columns = omega (arith, w.column-is, inv.few_columns);
          }
      | else-byte-eq10+else-begins_character w ↦
          let on : is_newline (get_or bytes i 0) ≡ false = search rules in
          let goes_on : begins_character (get_or bytes i 0) ≡ false = search rules in
          let more = count_by_more_no is_newline bytes i 0 there on in
          let column = column_of_later bytes i there on goes_on in record {
            line = omega (arith, w.line-is, inv.line, more);
            column = omega (arith, w.column-is, inv.column, column);
            few_lines = omega (arith, w.line-is, inv.few_lines);
            few_columns = omega (arith, w.column-is, inv.few_columns);
          }
    ]
