use Rattle.std.proofs.Common.{◌<◌, length, arith}
use Rattle.nvme_front.proofs.Beside.{kept-cq, view-cq, sent-cq, place-cq, free-cq, pair-cq}
use Rattle.nvme_front.proofs.state.FrontState.beside_cq.Goals as goal

pub beside-requires : goal.beside-requires
beside-requires c =
    let l : c.from.result < length c.args.self.now.cqs.items = omega arith in
    pair-cq c.args.self.now _ _ l c.index_mut.ensures.value _ c.from.ensures c.args.drainer.now.end c.requires.pair

pub returns-clause-consistent : goal.returns-clause-consistent
returns-clause-consistent c =
    let l : c.from.result < length c.args.self.now.cqs.items = omega arith in
    kept-cq c.args.self.now _ _ _ l c.index_mut.ensures.value c.beside.ensures.sent c.beside.ensures.put_ring c.requires.consistent

pub returns-clause-looks : goal.returns-clause-looks
returns-clause-looks c =
    let l : c.from.result < length c.args.self.now.cqs.items = omega arith in
    let e = c.beside.ensures in
    let s = c.args.self.now in
    let read = c.index_mut.ensures.value in
    record {
      end = c.beside.new.put;
      view = view-cq s _ _ c.beside.new.put l read e.sent e.put_ring _ c.from.ensures;
      sent = sent-cq s _ _ c.beside.new.put l read e.sent e.put_ring _ c.from.ensures;
      place = place-cq s _ _ c.beside.new.put l read e.sent e.put_ring _ c.from.ensures;
      free = free-cq s _ _ c.beside.new.put l read e.sent e.put_ring e.no_smaller _ c.from.ensures;
      rest = e.rest;
      count = e.count;
      items = e.items;
      get = e.get_ring;
    }
