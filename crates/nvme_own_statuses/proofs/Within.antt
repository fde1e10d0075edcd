-- An identifier above the number of queues that was allotted at the pick of a command isn't within the numbers that were told.
use Rattle.std.proofs.Common.{◌≡◌, ℕ, ◌+◌, ◌-◌, ◌/◌, ◌%◌, ◌<◌, nat_lt, nat_le, false, true, Option, Some, None, refl, ap, ◌∙◌, arith}
use Rattle.std.proofs.lemmas.Bool.{ltb-true, lt-leb, and_right}
use Rattle.nvme_admin.specs.Accepted.{queue_table}
use Rattle.nvme_log.specs.Rules.{FrontRules}
use Rattle.nvme_log.specs.Places.{picked}
use Rattle.nvme_log.specs.Histories.{table_history}
use Rattle.nvme_log.specs.Completions.{table_before}
use Rattle.nvme_log.specs.Laws.{StartsWithAdmin}
use Rattle.nvme_ctrl_log.specs.Notes.{Notes, logged}
use Rattle.nvme_ctrl_log.specs.Making.{placing_in}
use Rattle.nvme_audit.specs.Turns.{numbers}
use Rattle.nvme_audit.specs.Answers.{is_sq_within, is_cq_within}
use Rattle.nvme_own_log.specs.Shown.{shown}
use Rattle.nvme_own_log.proofs.IoQueues.{sound}
use Rattle.nvme_own_statuses.proofs.Allotted.{fewer_at}
use Rattle.nvme_own_statuses.proofs.Features.{features_at}
use Rattle.nvme_own_statuses.proofs.Numbers.{fewer_sqs, fewer_cqs, some_sqs, some_cqs, sqs_told, cqs_told}
use Rattle.nvme_own_statuses.proofs.Standing.{Stands}

pub no_sq_zero : (o : Option ℕ) → is_sq_within o 0 ≡ false
no_sq_zero None = refl
no_sq_zero (Some n) = refl

pub no_cq_zero : (o : Option ℕ) → is_cq_within o 0 ≡ false
no_cq_zero None = refl
no_cq_zero (Some n) = refl

module _ (rules : FrontRules) (starts : StartsWithAdmin rules) (by_regions : placing_in rules ≡ None) (notes : Notes) (now : Stands rules notes) (i : ℕ) (picked_here : i < picked (logged notes) 0) where
  pub sq_beyond : 0 < rules.start.nsq → (q : ℕ) → nat_lt (queue_table rules.start (table_before rules (logged notes) i)).nsq q ≡ true → is_sq_within (numbers (shown rules notes)) q ≡ false
  sq_beyond some q more = by (numbers (shown rules notes)) refl where
    by : (o : Option ℕ) → numbers (shown rules notes) ≡ o → is_sq_within o q ≡ false
    by None none = refl
    by (Some n) told =
        let it = (features_at rules starts by_regions notes now).numbered n told in
        let half : n % 0x10000 ≡ (queue_table rules.start (table_history rules (logged notes))).nsq - 1 = ap (λ (k : ℕ). k % 0x10000) it.0 ∙ sqs_told rules.start (table_history rules (logged notes)) it.1 in
        let fewer = fewer_at rules (λ t. t.nsq) (fewer_sqs rules) (logged notes) (sound rules starts by_regions notes now.each now.lawful) i picked_here in
        let one = some_sqs rules.start (table_history rules (logged notes)) some in
        let above : (queue_table rules.start (table_before rules (logged notes) i)).nsq < q = ltb-true (queue_table rules.start (table_before rules (logged notes) i)).nsq q more in
        and_right (nat_lt 0 q) (nat_le q (n % 0x10000 + 1)) (lt-leb q (n % 0x10000 + 1) (omega (arith, half, fewer, one, above)))

  pub cq_beyond : 0 < rules.start.ncq → (q : ℕ) → nat_lt (queue_table rules.start (table_before rules (logged notes) i)).ncq q ≡ true → is_cq_within (numbers (shown rules notes)) q ≡ false
  cq_beyond some q more = by (numbers (shown rules notes)) refl where
    by : (o : Option ℕ) → numbers (shown rules notes) ≡ o → is_cq_within o q ≡ false
    by None none = refl
    by (Some n) told =
        let it = (features_at rules starts by_regions notes now).numbered n told in
        let half : n / 0x10000 ≡ (queue_table rules.start (table_history rules (logged notes))).ncq - 1 = ap (λ (k : ℕ). k / 0x10000) it.0 ∙ cqs_told rules.start (table_history rules (logged notes)) it.1 in
        let fewer = fewer_at rules (λ t. t.ncq) (fewer_cqs rules) (logged notes) (sound rules starts by_regions notes now.each now.lawful) i picked_here in
        let one = some_cqs rules.start (table_history rules (logged notes)) some in
        let above : (queue_table rules.start (table_before rules (logged notes) i)).ncq < q = ltb-true (queue_table rules.start (table_before rules (logged notes) i)).ncq q more in
        and_right (nat_lt 0 q) (nat_le q (n / 0x10000 + 1)) (lt-leb q (n / 0x10000 + 1) (omega (arith, half, fewer, one, above)))
