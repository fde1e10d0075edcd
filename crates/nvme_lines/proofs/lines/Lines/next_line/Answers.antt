use Rattle.std.proofs.Common.{◌≡◌, ◌==◌, ◌++◌, ◌∷◌, [], ℕ, List, false, length, refl, sym, ap, subst, arith, rules}
use Rattle.std.proofs.lemmas.List.{length-append}
use Rattle.std.specs.Io.KnownBytes.{Consumes, Keeps, IsAtEnd}
use Rattle.nvme_lines.specs.Lines.{unread}
use Rattle.nvme_lines.specs.Lines.{longest_line}
use Rattle.nvme_lines.proofs.LineLemmas.{Joins, last_line, joins_newline, joins_more, joins_long}
use Rattle.nvme_lines.proofs.lines.Lines.next_line.Goals as goal

pub returns-in-None-clause-ok : goal.returns-in-None-clause-ok
returns-in-None-clause-ok g c =
    let old = unread g.R.Read.remaining c.args.self.now in
    let now = unread g.R.Read.remaining c.loop.self in
    let new = unread g.R.Read.remaining c.byte.new.self in
    let is_end : IsAtEnd now × Keeps now new = search rules in
    let none : c.is_empty.result ≡ (length c.loop.line.items == 0) = search rules in
    last_line c.is_empty.result c.loop.line.items old now new none c.loop.invariant.joins is_end.0 is_end.1

pub returns-in-Some-eq10-clause-ok : goal.returns-in-Some-eq10-clause-ok
returns-in-Some-eq10-clause-ok g c =
    let old = unread g.R.Read.remaining c.args.self.now in
    let now = unread g.R.Read.remaining c.loop.self in
    let new = unread g.R.Read.remaining c.byte.new.self in
    let took : Consumes now new (10 ∷ []) = search rules in
    joins_newline c.loop.line.items old now new 10 c.loop.invariant.joins took refl

pub loop-preserved : goal.loop-preserved
loop-preserved g c =
    let old = unread g.R.Read.remaining c.args.self.now in
    let now = unread g.R.Read.remaining c.loop.self in
    let new = unread g.R.Read.remaining c.byte.new.self in
    let items : c.push.new.self.items ≡ c.loop.line.items ++ c.in-Some.byte ∷ [] = search rules in
    let took : Consumes now new (c.in-Some.byte ∷ []) = search rules in
    let other : (c.in-Some.byte == 10) ≡ false = search rules in
    record {
      joins = subst (λ (l : List ℕ). Joins l old new) (sym items) (joins_more c.loop.line.items old now new c.in-Some.byte c.loop.invariant.joins took other);
      count = omega (arith, ap length items, length-append c.loop.line.items (c.in-Some.byte ∷ []), c.loop.invariant.count);
    }

pub returns-clause-err : goal.returns-clause-err
returns-clause-err g c =
    joins_long longest_line c.loop.line.items _ _ c.loop.invariant.joins (omega (arith, c.loop.invariant.count))
