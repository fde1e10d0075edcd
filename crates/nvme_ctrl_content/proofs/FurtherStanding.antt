-- What a controller holds of its table and of its answers, at the rules with a region more.
use Rattle.std.proofs.Common.{◌≡◌, ℕ, ◌<◌, Bool, true, false, ◌∷◌, length, get_or, refl, sym, ap, ◌∙◌, true≢false, inl}
use Rattle.std.proofs.lemmas.Bool.{or_parts}
use Rattle.nvme_admin.specs.Accepted.{queue_table}
use Rattle.nvme_admin.specs.History.{TableHistory, RegionAdded, Kind}
use Rattle.nvme_admin.specs.QueueTable.{QueueTable}
use Rattle.nvme_log.specs.Rules.{FrontRules, Past, sq_regions_of, cq_regions_of}
use Rattle.nvme_log.specs.Histories.{table_history}
use Rattle.nvme_log.specs.Places.{fate_of, is_waiting}
use Rattle.nvme_ctrl_log.specs.Making.{with_region, placing_in, is_late, is_named}
use Rattle.nvme_ctrl_log.specs.Notes.{Notes, logged}
use Rattle.nvme_ctrl_content.specs.Content.{Ready, PendingDelete, Content}
use Rattle.nvme_ctrl_content.specs.Standing.{HoldsOwn, HasItsStatus, HasOwnStatus, IsOwnDeletion, answer_in, deleted_answer, hand_of, Holds}
use Rattle.nvme_ctrl_log.proofs.FurtherTables.{added-further, table-further, sqs-further, cqs-further}
use Rattle.nvme_ctrl_log.proofs.FurtherHistories.{IsPassedBy, placing-stays, history-further, made_last-further}
use Rattle.nvme_ctrl_log.proofs.FurtherAnswers.{status-stays, dw0-stays}
use Rattle.nvme_ctrl_content.proofs.OwnStatus.{IsAnswerable, ready_is_answerable, answerable_is_done}
use Rattle.nvme_ctrl_log.proofs.TakenCommands.{IsSound}
use Rattle.nvme_ctrl_content.proofs.DeletedQueues.{deletion_done}

-- a region isn't late where none was before, and no Create named its address
pub in_time : (rules : FrontRules) (late : Bool) (notes : Notes) (a : ℕ) → is_late rules late notes a ≡ false → (late ≡ false) × IsPassedBy rules a (logged notes)
in_time rules late notes a e = let parts = or_parts late (is_named rules notes a) e in (parts.0, inl parts.1)

-- a history of a table, which is that of the log where no region was added late
pub record HasHistory (rules : FrontRules) (late : Bool) (past : Past) (table : QueueTable) : Type 0 where
  pub history : TableHistory
  pub table_is : table ≡ queue_table rules.start history
  pub history_is : late ≡ false → history ≡ table_history rules past

-- the table tells where queues may lie as the rules do, where no region was added late
pub placing-is : (rules : FrontRules) (late : Bool) (past : Past) (k : Content) → Holds rules late past k → late ≡ false → k.table.placing ≡ placing_in rules
placing-is rules late past k s early =
    ap (λ (t : QueueTable). t.placing) (s.tabled.table_is ∙ ap (queue_table rules.start) (s.tabled.history_is early)) ∙ placing-stays rules past

module _ (rules : FrontRules) (kind : Kind) (a n : ℕ) (some_sqs : 0 < length (sq_regions_of rules)) (some_cqs : 0 < length (cq_regions_of rules)) where
  -- ---- the table
  -- a region that is added last makes the table that it makes when it is added before
  pub added-before : (past : Past) → IsPassedBy rules a past
      → queue_table rules.start (RegionAdded kind a n ∷ table_history rules past) ≡ queue_table rules.start (table_history (with_region kind a n rules) past)
  added-before past passed =
      let h = table_history rules past in
      let further = history-further rules kind a n some_sqs some_cqs past passed in
      let last = added-further rules.start kind a n h (sqs-further rules.start kind a n h (table_history (with_region kind a n rules) past) further)
      (cqs-further rules.start kind a n h (table_history (with_region kind a n rules) past) further) in
      table-further rules.start kind a n h (RegionAdded kind a n ∷ h) last ∙ sym (table-further rules.start kind a n h (table_history (with_region kind a n rules) past) further)

  pub has_history : (late : Bool) (notes : Notes) (h : TableHistory) (table : QueueTable) → (late ≡ false → h ≡ table_history rules (logged notes))
      → table ≡ queue_table rules.start (RegionAdded kind a n ∷ h) → HasHistory (with_region kind a n rules) (is_late rules late notes a) (logged notes) table
  has_history late notes h table history_is table_is = by (is_late rules late notes a) refl where
    by : (b : Bool) → is_late rules late notes a ≡ b → HasHistory (with_region kind a n rules) b (logged notes) table
    by true e = record { history = RegionAdded kind a n ∷ h; table_is = table_is; history_is = λ no. absurd (true≢false no) }
    by false e =
        let on_time = in_time rules late notes a e in
        record {
          history = table_history (with_region kind a n rules) (logged notes);
          table_is = table_is ∙ ap (λ (g : TableHistory). queue_table rules.start (RegionAdded kind a n ∷ g)) (history_is on_time.0) ∙ added-before (logged notes) on_time.1;
          history_is = λ no. refl;
        }

  -- ---- answers
  pub own-holds : (late : Bool) (past : Past) (k : Content) → IsSound rules past → IsPassedBy rules a past → Holds rules late past k → HoldsOwn rules past k → HoldsOwn (with_region kind a n rules) past k
  own-holds late past k sound passed s own = record {
    effects_whole = own.effects_whole ∙ sym (made_last-further rules kind a n some_sqs some_cqs past passed);
    own_statuses = λ x j d lt. ready-holds (get_or (k.cq x).ready j d) (ready_is_answerable past k (hand_of k) s.ready x j d lt) (own.own_statuses x j d lt);
    own_deletion = λ r d is. deletion-holds d (deletion_done rules late past k s r d is) (own.own_deletion r d is);
  } where
    ready-holds : (t : Ready) → IsAnswerable past (hand_of k) t.place.region t.place.index → HasOwnStatus rules past t → HasOwnStatus (with_region kind a n rules) past t
    ready-holds t it has not_passed =
        let st : HasItsStatus rules past t = has not_passed in
        let done = answerable_is_done past (hand_of k) t.place.region t.place.index it in
        record {
          entry = st.entry;
          is_there = st.is_there;
          status = st.status ∙ sym (status-stays rules kind a n some_sqs some_cqs past sound passed t.place.region t.place.index st.entry st.is_there done (answer_in t));
          dw0 = st.dw0 ∙ sym (dw0-stays rules kind a n some_sqs some_cqs past sound passed t.place.region t.place.index st.entry st.is_there done (answer_in t));
        }

    deletion-holds : (d : PendingDelete) → is_waiting (fate_of past d.place.region d.place.index) ≡ false → IsOwnDeletion rules past d → IsOwnDeletion (with_region kind a n rules) past d
    deletion-holds d done st = record {
      entry = st.entry;
      is_there = st.is_there;
      status = status-stays rules kind a n some_sqs some_cqs past sound passed d.place.region d.place.index st.entry st.is_there done deleted_answer ∙ st.status;
      dw0 = dw0-stays rules kind a n some_sqs some_cqs past sound passed d.place.region d.place.index st.entry st.is_there done deleted_answer ∙ st.dw0;
    }
