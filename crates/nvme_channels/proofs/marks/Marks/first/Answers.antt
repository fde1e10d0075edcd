use Rattle.std.proofs.Common.{◌≡◌, ◌∙◌, ◌+◌, ◌*◌, ◌≤◌, ◌==◌, not, true, false, nat_lt, Some, None, get_or, length, refl, sym, arith}
use Rattle.std.specs.Prelude.{position}
use Rattle.std.proofs.lemmas.Bool.{lt-ltb, le-ltb}
use Rattle.std.proofs.lemmas.List.{get_or_read}
use Rattle.nvme_channels.proofs.Bits.{first_in_none, first_in_word}
use Rattle.nvme_channels.proofs.marks.Marks.first.Goals as goal

pub returns-in_err-word : goal.returns-in_err-word
returns-in_err-word c =
    let self = c.args.self.now in
    let covered : self.count ≤ 64 * length self.words.items = omega (arith, self.covered) in
    let none : position (λ w. not (w == 0)) self.words.items ≡ None = cc (c.in_err-word.ensures.value, c.deref.ensures.value) in
    c.from_residual.ensures ∙ sym (first_in_none self.count self.words.items covered none)

pub returns-then-place-self : goal.returns-then-place-self
returns-then-place-self c =
    let self = c.args.self.now in
    let j = c.in_ok-word.word in
    let some : position (λ w. not (w == 0)) self.words.items ≡ Some j = cc (c.in_ok-word.ensures.value, c.deref.ensures.value) in
    let is : c.index.result.now ≡ get_or self.words.items j 0 = get_or_read self.words.items j c.index.result.now (omega (arith, c.in_ok-word.ensures.within)) c.index.ensures 0 in
    let found = first_in_word self.count self.words.items j c.lowest.result (rw is at c.lowest.ensures.some) some in
    let test : nat_lt (64 * j + c.lowest.result) self.count ≡ true = lt-ltb (64 * j + c.lowest.result) self.count c.if-place-self.true in
    sym (found ∙ rw test refl)

pub returns-else-place-self : goal.returns-else-place-self
returns-else-place-self c =
    let self = c.args.self.now in
    let j = c.in_ok-word.word in
    let some : position (λ w. not (w == 0)) self.words.items ≡ Some j = cc (c.in_ok-word.ensures.value, c.deref.ensures.value) in
    let is : c.index.result.now ≡ get_or self.words.items j 0 = get_or_read self.words.items j c.index.result.now (omega (arith, c.in_ok-word.ensures.within)) c.index.ensures 0 in
    let found = first_in_word self.count self.words.items j c.lowest.result (rw is at c.lowest.ensures.some) some in
    let test : nat_lt (64 * j + c.lowest.result) self.count ≡ false = le-ltb (64 * j + c.lowest.result) self.count c.if-place-self.false in
    sym (found ∙ rw test refl)
