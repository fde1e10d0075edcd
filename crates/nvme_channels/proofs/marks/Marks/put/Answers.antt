use Rattle.std.proofs.Common.{◌≡◌, ◌/◌, ◌<◌, get_or, length, ◌≤◌, ◌*◌, arith}
use Rattle.std.proofs.lemmas.List.{get_or_read}
use Rattle.nvme_channels.proofs.Bits.{length_marks, marks_set}
use Rattle.nvme_channels.proofs.marks.Marks.put.Goals as goal

pub index-word-requires : goal.index-word-requires
index-word-requires c =
    let count = length_marks c.args.self.now.count c.args.self.now.words.items in omega (arith, count, c.args.self.now.covered)

pub index_mut-requires : goal.index_mut-requires
index_mut-requires c =
    let count = length_marks c.args.self.now.count c.args.self.now.words.items in omega (arith, count, c.args.self.now.covered)

pub returns : goal.returns
returns c =
    let self = c.args.self.now in
    let count = length_marks self.count self.words.items in
    let covered : self.count ≤ 64 * length self.words.items = omega (arith, self.covered) in
    let within : c.args.place < self.count = omega (arith, count) in
    let there : c.args.place / 64 < length self.words.items = omega (arith, covered, within) in
    let was : c.index-word.result.now ≡ get_or self.words.items (c.args.place / 64) 0 =
    get_or_read self.words.items (c.args.place / 64) c.index-word.result.now there c.index-word.ensures 0 in
    marks_set self.count self.words.items c.args.place c.args.on c.with_bit.result covered within (rw was at c.with_bit.ensures)
