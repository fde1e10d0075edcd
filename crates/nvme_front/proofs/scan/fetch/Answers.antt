use Rattle.std.proofs.Common.{◌≡◌, ℕ, ◌+◌, ◌%◌, ◌∷◌, [], ◌++◌, ◌∙◌, ap, sym, subst}
use Rattle.nvme_log.specs.declared.event.Event.TheVariants.{Fetch}
use Rattle.nvme_engine.specs.Calls.{MayFetch, HasFetched}
use Rattle.nvme_front.proofs.scan.fetch.Goals as goal

pub returns : goal.returns
returns c =
    let sq = c.args.sq.now in
    let e = c.get-got.ensures in
    let slots : c.slots-slots.result ≡ sq.end.slots = c.slots-slots.ensures.value in
    record {
      entry = c.get-got.result.entry;
      end = e.end;
      got = e.got;
      known = e.known;
      counted = e.fetched;
      engine = λ rules late notes s m.
          let may = subst (λ (i : ℕ). MayFetch rules notes c.args.qid c.slots-slots.result i) (sym e.index)
          (subst (λ (n : ℕ). MayFetch rules notes c.args.qid n sq.fetched) (sym slots) m) in
          subst (λ (n : ℕ). HasFetched rules late notes c.args.qid ((sq.fetched + 1) % n) sq.fetched c.get-got.result.entry c.fetched.new.self) slots
          (subst (λ (i : ℕ). HasFetched rules late notes c.args.qid ((i + 1) % c.slots-slots.result) i c.get-got.result.entry c.fetched.new.self) e.index
          (c.fetched.ensures.stands rules late notes s may));
      noted = c.note.ensures.items ∙ ap (λ (i : ℕ). c.args.log.now.items ++ Fetch c.args.region i c.get-got.result.entry ∷ []) e.index;
    }
