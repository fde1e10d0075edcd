-- Where queues may lie anywhere, what a controller keeps holds at the rules with a region more, too.
use Rattle.std.proofs.Common.{◌≡◌, ℕ, suc, ◌<◌, ◌≤◌, ◌==◌, Bool, true, false, if◌then◌else◌, List, [], ◌∷◌, ◌++◌, length, Option, Some, None, is_some, option_map, refl, sym, ap, ◌∙◌, subst, arith, inl, inr, true≢false, ne_eqb}
use Rattle.std.specs.Prelude.{slice_get}
use Rattle.std.proofs.lemmas.Bool.{cases_eq, eq-eqb}
use Rattle.std.proofs.lemmas.List.{length_push}
use Rattle.nvme_entry.specs.declared.submission.Sqe.{Sqe}
use Rattle.nvme_admin.specs.History.{Kind, TableHistory, Placing, Submission, Completion}
use Rattle.nvme_admin.specs.Accepted.{queue_table, verdict_of}
use Rattle.nvme_admin.specs.QueueTable.{QueueTable}
use Rattle.nvme_admin.specs.declared.region.Region.{Region}
use Rattle.nvme_placing.specs.Telling.{Tells}
use Rattle.nvme_log.specs.Rules.{FrontRules, sq_regions_of, cq_regions_of, slots_at}
use Rattle.nvme_log.specs.Histories.{table_history}
use Rattle.nvme_log.specs.Places.{fetched}
use Rattle.nvme_log.specs.Completions.{posted_to}
use Rattle.nvme_ctrl_log.specs.Notes.{Notes, logged}
use Rattle.nvme_slots.specs.Rings.{HasCounts}
use Rattle.nvme_ctrl_log.specs.Making.{with_region, regions_of, placing_in}
use Rattle.nvme_ctrl_log.specs.Account.{IsAccount}
use Rattle.nvme_slots.specs.declared.slot.Slot.{Slot}
use Rattle.nvme_ctrl.specs.declared.state.Controller.{Controller}
use Rattle.nvme_ctrl_content.specs.Content.{Attachment, Content}
use Rattle.nvme_ctrl_content.specs.Standing.{Holds, HoldsOwn}
use Rattle.nvme_ctrl.specs.kept.Kept.{Items, HasNumbers, HasItems, HoldsDoorbells, HoldsTags, IsSqOf, IsCqOf, shown_in}
use Rattle.nvme_ctrl.proofs.QueueStates.{sq_told, each_sqs}
use Rattle.nvme_ctrl_content.specs.Shown.{HoldsShown}
use Rattle.nvme_ctrl_content.specs.Order.{HoldsOrder}
use Rattle.nvme_ctrl.specs.kept.State.{sq_at, cq_at}
use Rattle.nvme_ctrl_log.proofs.AddedTables.{slots_last, slots_other, sq-more, sq-same, cq-more, cq-same}
use Rattle.nvme_ctrl_log.proofs.DoorbellCounts.{submitted_same, submitted_none, consumed_same, consumed_none}
use Rattle.nvme_ctrl_log.proofs.FurtherAccounts.{sound-notes, account-stays}
use Rattle.nvme_ctrl_log.proofs.FurtherHistories.{IsPassedBy, history-further, placing-stays, region-placing, anywhere-passes}
use Rattle.nvme_ctrl_log.proofs.FurtherRegion.{sqs_with, cqs_with}
use Rattle.nvme_ctrl_content.proofs.FurtherStanding.{placing-is, own-holds}
use Rattle.nvme_ctrl_log.proofs.FurtherTables.{IsFurther, table_with, table-further, verdict-further}
use Rattle.nvme_ctrl_content.proofs.Growing.{Grows, grown, holds_when_grown}
use Rattle.nvme_ctrl_log.proofs.NotedRegions.{leaves_regions}

-- ---- a content with a region more
-- the number of the region
abbrev pub next_number : Kind → Content → ℕ
next_number Submission k = k.nsq
next_number Completion k = k.ncq

-- the slots of the regions of each kind with it, and how many there are
abbrev pub sq_slots_with : Kind → (n : ℕ) → Content → ℕ → ℕ
sq_slots_with Submission n k r = if r == k.nsq then n else (k.sq r).slots
sq_slots_with Completion n k r = (k.sq r).slots

abbrev pub cq_slots_with : Kind → (n : ℕ) → Content → ℕ → ℕ
cq_slots_with Submission n k c = (k.cq c).slots
cq_slots_with Completion n k c = if c == k.ncq then n else (k.cq c).slots

abbrev pub nsq_with : Kind → Content → ℕ
nsq_with Submission k = suc k.nsq
nsq_with Completion k = k.nsq

abbrev pub ncq_with : Kind → Content → ℕ
ncq_with Submission k = k.ncq
ncq_with Completion k = suc k.ncq

-- the content, at the rules with it
abbrev pub with_next : FrontRules → Notes → Kind → (a n : ℕ) → Content → Content
with_next rules notes kind a n k =
    grown k (sq_slots_with kind n k) (cq_slots_with kind n k) (nsq_with kind k) (ncq_with kind k) (queue_table rules.start (table_history (with_region kind a n rules) (logged notes)))

-- all that a controller that stands at its log keeps, but for the count of the regions that were made, at the rules with a region more
pub record Comes (rules : FrontRules) (late : Bool) (notes : Notes) (c : Controller) (slots : List Slot) (k : Content) (items : Items) (before : Holds rules late (logged notes) k) (kind : Kind) (a n : ℕ) : Type 0 where
  pub holds : Holds (with_region kind a n rules) late (logged notes) (with_next rules notes kind a n k)
  pub numbers : HasNumbers c (with_next rules notes kind a n k)
  pub has : HasItems c slots (with_next rules notes kind a n k) items
  pub doorbells : HoldsDoorbells (with_region kind a n rules) notes c (with_next rules notes kind a n k)
  pub tags : HoldsTags notes c slots (with_next rules notes kind a n k) items
  pub shown : HoldsShown notes (with_next rules notes kind a n k)
  pub ordered : HoldsOrder notes (with_next rules notes kind a n k)
  pub account : late ≡ false → IsAccount (with_region kind a n rules) notes
  -- the table is the same but for the region
  pub table_is : (with_next rules notes kind a n k).table ≡ table_with kind a n k.table
  -- each entry has the verdict that it had
  pub verdicts : (entry : Sqe) → verdict_of rules.start holds.tabled.history entry ≡ verdict_of rules.start before.tabled.history entry
  -- the region is the last of its kind
  pub next : slice_get (regions_of kind (with_region kind a n rules)) (next_number kind k) ≡ Some (record { address = a; slots = n })

-- the item after a list
get_last : {A : Type 0} (xs : List A) (x : A) (r : ℕ) → length xs ≡ r → slice_get (xs ++ x ∷ []) r ≡ Some x
get_last [] x r is = ap (slice_get (x ∷ [])) (sym is)
get_last (y ∷ xs) x r is = ap (slice_get ((y ∷ xs) ++ x ∷ [])) (sym is) ∙ get_last xs x (length xs) refl

-- a region of which an identifier is told was opened for a queue
opened_for : (o : Option Attachment) → Some 0 ≡ option_map (λ (a : Attachment). a.qid) o → (a : Attachment) × (o ≡ Some a)
opened_for None e = cc
opened_for (Some a) e = (a, refl)

module _ (kind : Kind) (a n : ℕ) where
  -- ---- lists of regions
  sq_regions-are : (rules : FrontRules) → sq_regions_of (with_region kind a n rules) ≡ sqs_with kind a n (sq_regions_of rules)
  sq_regions-are rules = by kind where
    by : (x : Kind) → sq_regions_of (with_region x a n rules) ≡ sqs_with x a n (sq_regions_of rules)
    by Submission = sq-more a n rules
    by Completion = cq-same a n rules

  cq_regions-are : (rules : FrontRules) → cq_regions_of (with_region kind a n rules) ≡ cqs_with kind a n (cq_regions_of rules)
  cq_regions-are rules = by kind where
    by : (x : Kind) → cq_regions_of (with_region x a n rules) ≡ cqs_with x a n (cq_regions_of rules)
    by Submission = sq-same a n rules
    by Completion = cq-more a n rules

  module _ (k : Content) where
    sqs-counted : (rs : List Region) → length rs ≡ k.nsq → length (sqs_with kind a n rs) ≡ nsq_with kind k
    sqs-counted rs is = by kind where
      by : (x : Kind) → length (sqs_with x a n rs) ≡ nsq_with x k
      by Submission = omega (arith, length_push rs (record { address = a; slots = n }), is)
      by Completion = is

    cqs-counted : (rs : List Region) → length rs ≡ k.ncq → length (cqs_with kind a n rs) ≡ ncq_with kind k
    cqs-counted rs is = by kind where
      by : (x : Kind) → length (cqs_with x a n rs) ≡ ncq_with x k
      by Submission = is
      by Completion = omega (arith, length_push rs (record { address = a; slots = n }), is)

    more_sqs : k.nsq ≤ nsq_with kind k
    more_sqs = by kind where
      by : (x : Kind) → k.nsq ≤ nsq_with x k
      by Submission = omega arith
      by Completion = omega arith

    more_cqs : k.ncq ≤ ncq_with kind k
    more_cqs = by kind where
      by : (x : Kind) → k.ncq ≤ ncq_with x k
      by Submission = omega arith
      by Completion = omega arith

    -- their slots
    last-or : (f : ℕ → ℕ) (rs : List Region) (m : ℕ) → length rs ≡ m → ((r : ℕ) → slots_at rs r ≡ f r) → (r : ℕ)
        → slots_at (rs ++ record { address = a; slots = n } ∷ []) r ≡ (if r == m then n else f r)
    last-or f rs m is are r = elim (cases_eq r m) [
      | inl same ↦
          ap (slots_at (rs ++ record { address = a; slots = n } ∷ [])) (same ∙ sym is) ∙ slots_last rs (record { address = a; slots = n })
          ∙ sym (λ i. if eq-eqb r m same i then n else f r)
      | inr other ↦
          slots_other rs (record { address = a; slots = n }) r (λ e. other (e ∙ is)) ∙ are r
          ∙ sym (λ i. if ne_eqb r m other i then n else f r)
    ]

    sq_slots-are : (rs : List Region) → length rs ≡ k.nsq → ((r : ℕ) → slots_at rs r ≡ (k.sq r).slots) → (r : ℕ) → slots_at (sqs_with kind a n rs) r ≡ sq_slots_with kind n k r
    sq_slots-are rs is are r = by kind where
      by : (x : Kind) → slots_at (sqs_with x a n rs) r ≡ sq_slots_with x n k r
      by Submission = last-or (λ (x : ℕ). (k.sq x).slots) rs k.nsq is are r
      by Completion = are r

    cq_slots-are : (rs : List Region) → length rs ≡ k.ncq → ((r : ℕ) → slots_at rs r ≡ (k.cq r).slots) → (r : ℕ) → slots_at (cqs_with kind a n rs) r ≡ cq_slots_with kind n k r
    cq_slots-are rs is are r = by kind where
      by : (x : Kind) → slots_at (cqs_with x a n rs) r ≡ cq_slots_with x n k r
      by Submission = are r
      by Completion = last-or (λ (x : ℕ). (k.cq x).slots) rs k.ncq is are r

    -- those that are there keep theirs
    sq_slots-left : (r : ℕ) → r < k.nsq → (k.sq r).slots ≡ sq_slots_with kind n k r
    sq_slots-left r below = by kind where
      by : (x : Kind) → (k.sq r).slots ≡ sq_slots_with x n k r
      by Submission = sym (λ i. if ne_eqb r k.nsq (λ e. absurd (omega (arith, below, e))) i then n else (k.sq r).slots)
      by Completion = refl

    cq_slots-left : (r : ℕ) → r < k.ncq → (k.cq r).slots ≡ cq_slots_with kind n k r
    cq_slots-left r below = by kind where
      by : (x : Kind) → (k.cq r).slots ≡ cq_slots_with x n k r
      by Submission = refl
      by Completion = sym (λ i. if ne_eqb r k.ncq (λ e. absurd (omega (arith, below, e))) i then n else (k.cq r).slots)

    -- the region is the last
    next-is : (rules : FrontRules) → length (sq_regions_of rules) ≡ k.nsq → length (cq_regions_of rules) ≡ k.ncq
        → slice_get (regions_of kind (with_region kind a n rules)) (next_number kind k) ≡ Some (record { address = a; slots = n })
    next-is rules sqs cqs = by kind where
      by : (x : Kind) → slice_get (regions_of x (with_region x a n rules)) (next_number x k) ≡ Some (record { address = a; slots = n })
      by Submission = ap (λ (rs : List Region). slice_get rs k.nsq) (sq-more a n rules) ∙ get_last (sq_regions_of rules) (record { address = a; slots = n }) k.nsq sqs
      by Completion = ap (λ (rs : List Region). slice_get rs k.ncq) (cq-more a n rules) ∙ get_last (cq_regions_of rules) (record { address = a; slots = n }) k.ncq cqs

  -- ---- what is kept
  module _ (rules : FrontRules) (late : Bool) (notes : Notes) (k : Content) (s : Holds rules late (logged notes) k)
      (account : late ≡ false → IsAccount rules notes) (anywhere : is_some k.table.placing ≡ true) where
    abbrev others : FrontRules
    others = with_region kind a n rules

    abbrev grew : Content
    grew = with_next rules notes kind a n k

    -- the admin regions are there
    admin_region : (x : Attachment) × ((k.sq 0).queue ≡ Some x)
    admin_region = opened_for (k.sq 0).queue (sym s.ready.admin_qid ∙ s.queues.qid_is 0)

    sqs_there : 0 < length (sq_regions_of rules)
    sqs_there = omega (arith, s.queues.sq_there 0 admin_region.0 admin_region.1, s.tabled.sq_number)

    cqs_there : 0 < length (cq_regions_of rules)
    cqs_there = omega (arith, s.queues.posts_there 0 admin_region.0 admin_region.1, s.tabled.cq_number)

    -- no region was added late
    not_late : late ≡ false
    not_late = s.tabled.in_time anywhere

    table-is : k.table ≡ queue_table rules.start (table_history rules (logged notes))
    table-is = s.tabled.table_is ∙ ap (queue_table rules.start) (s.tabled.history_is not_late)

    -- so it is by the rules: no entry asks for a region
    rules-anywhere : is_some (placing_in rules) ≡ true
    rules-anywhere = ap (λ (o : Option Placing). is_some o) (sym (placing-is rules late (logged notes) k s not_late)) ∙ anywhere

    passed : IsPassedBy rules a (logged notes)
    passed = inr rules-anywhere

    further : IsFurther rules.start kind a n (table_history rules (logged notes)) (table_history others (logged notes))
    further = history-further rules kind a n sqs_there cqs_there (logged notes) passed

    table-same : grew.table ≡ table_with kind a n k.table
    table-same = table-further rules.start kind a n (table_history rules (logged notes)) (table_history others (logged notes)) further ∙ ap (table_with kind a n) (sym table-is)

    own-same : HoldsOwn others (logged notes) k
    own-same =
        let counts = account not_late in
        own-holds rules kind a n sqs_there cqs_there late (logged notes) k (sound-notes rules kind a n sqs_there cqs_there notes counts.each counts.lawful) passed s (s.own not_late)

    grows : Grows rules late (logged notes) others.regions k (sq_slots_with kind n k) (cq_slots_with kind n k) (nsq_with kind k) (ncq_with kind k) grew.table
    grows = record {
      sqs = more_sqs k;
      cqs = more_cqs k;
      same_sq = λ q. ap (λ (t : QueueTable). t.sq q) table-same;
      same_cq = λ q. ap (λ (t : QueueTable). t.cq q) table-same;
      same_used = λ r. ap (λ (t : QueueTable). t.sq_region_used r) table-same;
      same_cq_used = λ r. ap (λ (t : QueueTable). t.cq_region_used r) table-same;
      history = table_history others (logged notes);
      table_is = refl;
      placing_is = ap (λ (t : QueueTable). t.placing) table-same ∙ s.tabled.placing ∙ sym (region-placing kind a n rules);
      in_time = λ some. not_late;
      history_is = λ early. refl;
      own = λ early. own-same;
      sq_count = ap (λ (t : QueueTable). length t.sq_regions) table-same ∙ sqs-counted k k.table.sq_regions s.tabled.sq_count;
      cq_count = ap (λ (t : QueueTable). length t.cq_regions) table-same ∙ cqs-counted k k.table.cq_regions s.tabled.cq_count;
      sq_number = ap (λ (rs : List Region). length rs) (sq_regions-are rules) ∙ sqs-counted k (sq_regions_of rules) s.tabled.sq_number;
      cq_number = ap (λ (rs : List Region). length rs) (cq_regions-are rules) ∙ cqs-counted k (cq_regions_of rules) s.tabled.cq_number;
      sq_slots_are = λ r. ap (λ (rs : List Region). slots_at rs r) (sq_regions-are rules) ∙ sq_slots-are k (sq_regions_of rules) s.tabled.sq_number s.tabled.sq_slots r;
      cq_slots_are = λ r. ap (λ (rs : List Region). slots_at rs r) (cq_regions-are rules) ∙ cq_slots-are k (cq_regions_of rules) s.tabled.cq_number s.tabled.cq_slots r;
      sq_regions_are = ap (λ (t : QueueTable). t.sq_regions) table-same ∙ ap (sqs_with kind a n) s.tabled.sq_regions_are ∙ sym (sq_regions-are rules);
      cq_regions_are = ap (λ (t : QueueTable). t.cq_regions) table-same ∙ ap (cqs_with kind a n) s.tabled.cq_regions_are ∙ sym (cq_regions-are rules);
    }

    holds-then : Holds others late (logged notes) grew
    holds-then =
        holds_when_grown rules late late (logged notes) k s others.regions (sq_slots_with kind n k) (cq_slots_with kind n k) (nsq_with kind k) (ncq_with kind k) grew.table grows

    verdicts-same : (entry : Sqe) → verdict_of rules.start holds-then.tabled.history entry ≡ verdict_of rules.start s.tabled.history entry
    verdicts-same entry =
        ap (λ (h : TableHistory). verdict_of rules.start h entry) (holds-then.tabled.history_is not_late)
        ∙ verdict-further rules.start kind a n (table_history rules (logged notes)) (table_history others (logged notes)) entry
        (anywhere-passes rules a (table_history rules (logged notes)) entry (placing-stays rules (logged notes)) rules-anywhere) further
        ∙ ap (λ (h : TableHistory). verdict_of rules.start h entry) (sym (s.tabled.history_is not_late))

    -- ---- a controller
    module _ (c : Controller) (slots : List Slot) (items : Items) where
      -- its table tells the table with the region
      tells-with : Tells c.table k.table → Tells c.table grew.table
      tells-with t = subst (Tells c.table) (sym table-same) (record {
        placing = t.placing;
        sq = t.sq;
        cq = t.cq;
        nsq = t.nsq;
        ncq = t.ncq;
        numbers_set = t.numbers_set;
        created = t.created;
        settings = t.settings;
        by_regions = λ none. absurd (true≢false (sym anywhere ∙ ap (λ (o : Option Placing). is_some o) (t.placing ∙ none)));
        by_tokens = t.by_tokens;
        sized = t.sized;
      })

      module _ (numbers : HasNumbers c k) where
        sq_below : (q r : ℕ) → k.sq_life q ≡ Some r → r < k.nsq
        sq_below q r is = s.queues.sq_there r (record { qid = q; cq_region = (numbers.sqs.each q r is).cq_region }) (numbers.sqs.each q r is).opened

        cq_below : (q x : ℕ) → k.cq_life q ≡ Some x → x < k.ncq
        cq_below q x is = s.queues.cq_there q x (sym (s.lives.cqs q) ∙ is)

        sq-is : (q r : ℕ) → k.sq_life q ≡ Some r → IsSqOf c grew q r
        sq-is q r is =
            sq_told k.table grew.table k.cq_life q r (sq_at c.sqs q) (k.sq r) (grew.sq r) (k.held r) (shown_in k.board q) (numbers.sqs.each q r is) (ap (λ (t : QueueTable). t.sq q) table-same) refl refl
            (sym (sq_slots-left k r (sq_below q r is)))

        cq-is : (q x : ℕ) → k.cq_life q ≡ Some x → IsCqOf c grew q x
        cq-is q x is =
            let h = numbers.cqs.each q x is in
            let same = cq_slots-left k x (cq_below q x is) in
            record { slots = h.slots ∙ same; some = subst (λ (m : ℕ). 0 < m) same h.some }

        numbers-then : HasNumbers c grew
        numbers-then = record {
          tells = tells-with numbers.tells;
          board_is = numbers.board_is;
          is_arbiter = numbers.is_arbiter;
          outstanding_is = numbers.outstanding_is;
          sqs = each_sqs c.sqs c.rung k.table grew.table k.cq_life k.cq_life k.sq_life k.sq_id k.sq grew.sq k.held k.held (shown_in k.board) (shown_in k.board) (λ q r is w. sq-is q r is) numbers.sqs;
          cqs = record {
            ids = numbers.cqs.ids;
            each = cq-is;
            few = numbers.cqs.few;
            none = numbers.cqs.none;
            size = numbers.cqs.size;
            readied = numbers.cqs.readied;
          };
        }

        -- the doorbells tell what they told
        doorbells-then : HoldsDoorbells rules notes c k → HoldsDoorbells others notes c grew
        doorbells-then d =
            let counts = account not_late in
            let left = leaves_regions rules kind a n notes counts.each in
            record {
              sqs = record {
                each = λ q r is.
                    subst (HasCounts (sq_at c.sqs q).ring (length (fetched (logged notes) r)))
                    (sym (submitted_same rules others notes r (left.sq_left r (let below = sq_below q r is in let number = s.tabled.sq_number in omega (arith, below, number)))))
                    (d.sqs.each q r is);
                no_tails = λ r none. submitted_none rules others notes r (d.sqs.no_tails r none);
              };
              cqs = record {
                each = λ q x is.
                    subst (λ (m : ℕ). HasCounts (cq_at c.cqs q).ring m (length (posted_to (logged notes) x)))
                    (sym (consumed_same rules others notes x (left.cq_left x (let below = cq_below q x is in let number = s.tabled.cq_number in omega (arith, below, number)))))
                    (d.cqs.each q x is);
                phases = d.cqs.phases;
                no_heads = λ x none. consumed_none rules others notes x (d.cqs.no_heads x none);
                no_posts = d.cqs.no_posts;
              };
            }

      has-then : HasItems c slots k items → HasItems c slots grew items
      has-then h = record { windows = h.windows; outs = h.outs; readies = h.readies; deletions = h.deletions; free = h.free; few = h.few }

      tags-then : HoldsTags notes c slots k items → HoldsTags notes c slots grew items
      tags-then t = t

      -- a region comes
      pub region_comes : HasNumbers c k → HasItems c slots k items → HoldsDoorbells rules notes c k → HoldsTags notes c slots k items → HoldsShown notes k → HoldsOrder notes k
          → Comes rules late notes c slots k items s kind a n
      region_comes numbers has doorbells tags shown ordered = record {
        holds = holds-then;
        numbers = numbers-then numbers;
        has = has-then has;
        doorbells = doorbells-then numbers doorbells;
        tags = tags-then tags;
        shown = record { held = shown.held; classed = shown.classed };
        ordered = ordered;
        account = λ early. account-stays rules kind a n sqs_there cqs_there notes (account early) passed;
        table_is = table-same;
        verdicts = verdicts-same;
        next = next-is k rules s.tabled.sq_number s.tabled.cq_number;
      }
