use Rattle.std.proofs.Common.{inl, inr, refl, sym, subst}
use Rattle.std.proofs.lemmas.Bool.{cases_Bool}
use Rattle.nvme_ctrl.specs.declared.state.Controller.{Controller}
use Rattle.nvme_simulation.specs.Fronts.{Arbitrates}
use Rattle.nvme_simulation.proofs.Pools.{again}
use Rattle.nvme_simulation.proofs.Quiet.{behind_one, behind_same}
use Rattle.nvme_simulation.specs.Creating.{StandsAfter}
use Rattle.nvme_simulation.proofs.Creating.{noted, tail_done}
use Rattle.nvme_simulation.proofs.front.Front.submit.Goals as goal

pub returns : goal.returns
returns c = record {
  keeps = λ m s done h. elim (cases_Bool c.sq_tail.result) [
    | inl rung ↦
        noted m s done _ _ _ _ h _ (c.sq_tail.ensures.stands h.rules h.late h.notes c.args.self.now.pool.items h.stands rung).stands refl (tail_done _ _ _)
    | inr refused ↦ subst (λ (x : Controller). StandsAfter m s done x c.args.self.now.pool.items) (sym (c.sq_tail.ensures.refused refused)) h
  ];
  front = record {
    is = c.sq_tail.ensures.front c.args.self.now.pool.items c.requires.front;
    depths = c.sq_tail.ensures.depths;
    arbitrates = λ m s a. elim (cases_Bool c.sq_tail.result) [
      | inl rung ↦ again m s _ _ _ _ a _ (c.sq_tail.ensures.stands a.rules a.late a.notes c.args.self.now.pool.items a.stands rung).stands
      | inr refused ↦ subst (λ (x : Controller). Arbitrates m s x c.args.self.now.pool.items) (sym (c.sq_tail.ensures.refused refused)) a
    ];
  };
  quiet = λ rules late notes s. elim (cases_Bool c.sq_tail.result) [
    | inl rung ↦ behind_one rules late notes _ _ _ refl (c.sq_tail.ensures.stands rules late notes c.args.self.now.pool.items s rung).stands
    | inr refused ↦ behind_same rules late notes _ _ _ _ (c.sq_tail.ensures.refused refused, refl) s
  ];
}
