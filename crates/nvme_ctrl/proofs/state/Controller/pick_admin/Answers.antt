use Rattle.nvme_ctrl.specs.declared.state.Controller.{Controller}
use Rattle.std.proofs.Common.{◌≡◌, ℕ, ◌+◌, ap, sym, subst, ◌∙◌, Option, None}
use Rattle.std.specs.Prelude.{unwrap_or, min, is_some}
use Rattle.nvme_admin.specs.Accepted.{queue_table, verdict_of}
use Rattle.nvme_admin.specs.Effects.{verdict_in, NamesRegions}
use Rattle.nvme_placing.specs.Telling.{Tells, IsTold, content_of, placing_of}
use Rattle.nvme_slots.specs.declared.slot.Slot.{Slot}
use Rattle.nvme_ctrl.proofs.AdminCall.{admin_call}
use Rattle.nvme_ctrl.proofs.NamedQueues.{names_queues}
use Rattle.nvme_ctrl.proofs.ToldEffects.{told_by, placing_is, is_anywhere}
use Rattle.nvme_admin.specs.History.{Placing}
use Rattle.nvme_admin.specs.declared.effect.Effect.{Effect}
use Rattle.nvme_ctrl_log.specs.Making.{placing_in}
use Rattle.nvme_ctrl_log.specs.Notes.{logged}
use Rattle.nvme_ctrl_log.specs.Steps.{NamesQueues}
use Rattle.nvme_entry.specs.AdminCommand.{admin_command_of}
use Rattle.nvme_admin.specs.QueueTable.{QueueTable}
use Rattle.nvme_ctrl.proofs.CommandVerdicts.{verdict_is_of, of_told}
use Rattle.nvme_ctrl.proofs.PickCall.{next_lawful}
use Rattle.nvme_ctrl.proofs.state.Controller.pick_admin.Goals as goal

pub returns : goal.returns
returns c =
    let a = c.args.self.now in
    let placing : placing_of c.execute-effect.new.self ≡ placing_of a.table = c.execute-effect.ensures.placing ∙ ap (λ (z : Controller). placing_of z.table) c.put_sq.ensures in
    record {
      own = c.carry_out.ensures.own ∙ ap (λ (z : Controller). z.own) c.put_sq.ensures;
      depths = c.carry_out.ensures.depths ∙ ap (λ (z : Controller). z.depths) c.put_sq.ensures;
      size = c.carry_out.ensures.size;
      generations = c.carry_out.ensures.generations;
      commanded = λ rules late notes s.
          let h = s.holds.tabled.history in
          let entry = c.slot_at.result.entry in
          let told : IsTold a.table (verdict_in c.execute-effect.result) (verdict_of rules.start h entry) =
          subst (λ (z : Controller). Tells z.table (queue_table rules.start h) → IsTold z.table (verdict_in c.execute-effect.result) (verdict_of rules.start h entry)) c.put_sq.ensures
          (c.execute-effect.ensures.verdict rules.start h) (subst (λ (t : QueueTable). Tells a.table t) s.holds.tabled.table_is s.numbers.tells) in
          of_told (admin_command_of entry) (placing_of a.table) (verdict_in c.told-told.result) (verdict_of rules.start h entry)
          (told_by (placing_of a.table) (verdict_in c.told-told.result) (verdict_in c.execute-effect.result) (verdict_of rules.start h entry) (λ on. ap verdict_in (c.told-told.ensures.on_regions (placing ∙ on))) c.told-told.ensures.same told)
          (verdict_is_of rules.start h entry);
      anywhere = λ rules late notes s on. c.told-told.ensures.anywhere (ap (λ (p : Option Placing). is_some p) placing ∙ is_anywhere rules late notes a c.args.slots.now s on);
      names = λ rules late notes s on.
          subst (λ (did : Effect). NamesQueues (logged notes) did) (sym (c.told-told.ensures.on_regions (placing ∙ placing_is rules late notes a c.args.slots.now s ∙ on)))
          (names_queues rules late notes a c.args.slots.now s on c.slot_at.result.entry c.execute-effect.result
          (λ start h. subst (λ (z : Controller). Tells z.table (queue_table start h) → IsTold z.table (verdict_in c.execute-effect.result) (verdict_of start h c.slot_at.result.entry)) c.put_sq.ensures (c.execute-effect.ensures.verdict start h))
          (subst (λ (z : Controller). placing_of z.table ≡ None → NamesRegions (content_of z.table) c.execute-effect.result) c.put_sq.ensures c.execute-effect.ensures.regions));
      stands = λ rules late notes s.
          let placed = admin_call rules late notes a c.args.slots.now s c.requires.can.none_picked c.args.pick c.keep.new.self (next_lawful a c.args.pick c.requires.can.next (c.requires.can.some (record { rules = rules; late = late; notes = notes; stands = s })))
          c.keep.ensures.stands c.keep.ensures.queues c.keep.ensures.is_arbiter c.requires.of_admin
          c.sq-sq.result c.pop.new.self c.pop.result c.unwrap_or-tag.result c.saturating_add.result c.saturating_add-self.result c.slot_at.result.entry c.execute-effect.new.self _ c.execute-effect.result
          c.sq-sq.ensures c.pop.ensures.some c.pop.ensures.rest (λ x is. c.unwrap_or-tag.ensures ∙ ap (λ (o : Option ℕ). unwrap_or o 0) is) c.saturating_add.ensures
          (c.saturating_add-self.ensures ∙ ap (λ (z : Controller). min (z.outstanding + 1) 65535) c.put_sq.ensures) (ap (λ (z : Slot). z.entry) c.slot_at.ensures)
          (ap (λ (z : Controller). record z { outstanding = c.saturating_add-self.result; table = c.execute-effect.new.self }) c.put_sq.ensures)
          (λ start h. subst (λ (z : Controller). Tells z.table (queue_table start h) → IsTold z.table (verdict_in c.execute-effect.result) (verdict_of start h c.slot_at.result.entry)) c.put_sq.ensures (c.execute-effect.ensures.verdict start h))
          (λ start h was. c.execute-effect.ensures.stands start h (subst (λ (z : Controller). Tells z.table (queue_table start h)) (sym c.put_sq.ensures) was)) in
          let done = c.carry_out.ensures.stands _ late notes placed.verdict placed.applied in
          record {
            verdict = placed.verdict;
            told = told_by (placing_in rules) (verdict_in c.told-told.result) (verdict_in c.execute-effect.result) placed.verdict
                (λ on. ap verdict_in (c.told-told.ensures.on_regions (placing ∙ placing_is rules late notes a c.args.slots.now s ∙ on))) c.told-told.ensures.same placed.told;
            carried_out = done;
            its_entry = placed.its_entry done.index done.oldest;
          };
    }
