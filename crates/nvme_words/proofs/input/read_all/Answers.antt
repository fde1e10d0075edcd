-- What was given was there, and where a read gives nothing all was taken.
use Rattle.std.proofs.Common.{◌≡◌, take, ap, rules, arith}
use Rattle.std.proofs.lemmas.List.{length-take-le}
use Rattle.nvme_words.proofs.Taking.{all_taken, first_within, taken_within}
use Rattle.nvme_words.proofs.input.read_all.Goals as goal

pub returns-then-has_failed-clause-given : goal.returns-then-has_failed-clause-given
returns-then-has_failed-clause-given g c =
    let given : c.read.new.self.given ≡ c.loop.reader.given = search rules in
    first_within _ _ c.loop.bytes.items c.read.new.self.given c.loop.invariant.taken (omega (arith, given, c.loop.invariant.given))

pub returns-then-count-eq0-clause-whole : goal.returns-then-count-eq0-clause-whole
returns-then-count-eq0-clause-whole g c =
    let none : c.in-Some.count ≡ 0 = search rules in
    all_taken _ _ _ c.loop.bytes.items (take c.in-Some.count c.read.new.chunk) c.loop.invariant.taken c.in-Some.ensures.bytes
    (ap (λ n. take n c.read.new.chunk) none) (c.in-Some.ensures.end none (search rules))

pub returns-then-count-eq0-clause-given : goal.returns-then-count-eq0-clause-given
returns-then-count-eq0-clause-given g c =
    taken_within _ _ _ c.loop.bytes.items (take c.in-Some.count c.read.new.chunk) c.read.new.self.given c.loop.invariant.taken c.in-Some.ensures.bytes
    (omega (arith, c.in-Some.ensures.given, c.loop.invariant.given, length-take-le c.in-Some.count c.read.new.chunk c.in-Some.ensures.within))

pub returns-then-count-len-clause-given : goal.returns-then-count-len-clause-given
returns-then-count-len-clause-given g c =
    taken_within _ _ _ c.loop.bytes.items (take c.in-Some.count c.read.new.chunk) c.read.new.self.given c.loop.invariant.taken c.in-Some.ensures.bytes
    (omega (arith, c.in-Some.ensures.given, c.loop.invariant.given, length-take-le c.in-Some.count c.read.new.chunk c.in-Some.ensures.within))

pub returns-then-is_err-clause-given : goal.returns-then-is_err-clause-given
returns-then-is_err-clause-given g c =
    taken_within _ _ _ c.loop.bytes.items (take c.in-Some.count c.read.new.chunk) c.read.new.self.given c.loop.invariant.taken c.in-Some.ensures.bytes
    (omega (arith, c.in-Some.ensures.given, c.loop.invariant.given, length-take-le c.in-Some.count c.read.new.chunk c.in-Some.ensures.within))

pub returns-clause-given : goal.returns-clause-given
returns-clause-given g c =
    first_within _ _ c.loop.bytes.items c.loop.reader.given c.loop.invariant.taken (omega (arith, c.loop.invariant.given))
