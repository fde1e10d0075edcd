use Rattle.std.proofs.Common.{◌<◌, length, arith}
use Rattle.nvme_front.proofs.Beside.{kept-sq, view-sq, got-sq, known-sq, place-sq, pair-sq}
use Rattle.nvme_front.proofs.state.FrontState.beside_sq.Goals as goal

pub beside-requires : goal.beside-requires
beside-requires c =
    let l : c.from.result < length c.args.self.now.sqs.items = omega arith in
    pair-sq c.args.self.now _ _ l c.index_mut-region.ensures.value _ c.from.ensures c.args.feeder.now.end c.requires.pair

pub returns-clause-consistent : goal.returns-clause-consistent
returns-clause-consistent c =
    let l : c.from.result < length c.args.self.now.sqs.items = omega arith in
    kept-sq c.args.self.now _ _ _ l c.index_mut-region.ensures.value c.beside.ensures.got c.beside.ensures.known c.beside.ensures.get_ring c.requires.consistent

pub returns-clause-looks : goal.returns-clause-looks
returns-clause-looks c =
    let l : c.from.result < length c.args.self.now.sqs.items = omega arith in
    let e = c.beside.ensures in
    let s = c.args.self.now in
    let read = c.index_mut-region.ensures.value in
    record {
      end = c.beside.new.get;
      view = view-sq s _ _ c.beside.new.get l read e.got e.known e.get_ring _ c.from.ensures;
      got = got-sq s _ _ c.beside.new.get l read e.got e.known e.get_ring _ c.from.ensures;
      known = known-sq s _ _ c.beside.new.get l read e.got e.known e.get_ring _ c.from.ensures;
      place = place-sq s _ _ c.beside.new.get l read e.got e.known e.get_ring _ c.from.ensures;
      rest = e.rest;
      count = e.count;
      script = e.script;
      sent = e.script_count;
      put = e.put_ring;
      free = e.no_smaller;
    }
