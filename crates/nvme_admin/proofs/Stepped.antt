-- A queue table that is kept step by step.
use Rattle.std.proofs.Common.{◌≡◌, ℕ, ◌+◌, ◌==◌, ◌||◌, ◌&&◌, Bool, true, false, not, min, if◌then◌else◌, List, ◌∷◌, ◌++◌, length, Option, Some, None, is_some, is_none, refl, sym, subst, option_map, option_to_list, unwrap_or}
use Rattle.std.specs.List.{list_any}
use Rattle.nvme_entry.specs.AdminCommand.{admin_command_of}
use Rattle.nvme_entry.specs.declared.admin.AdminCommand.{AdminCommand}
use Rattle.nvme_entry.specs.declared.admin.AdminCommand.TheVariants.{DeleteSq, CreateSq, DeleteCq, CreateCq, Abort, SetFeatures, GetFeatures, Other}
use Rattle.nvme_admin.specs.declared.verdict.SqEntry.{SqEntry}
use Rattle.nvme_admin.specs.History.{Start, Effects, Accepted}
use Rattle.nvme_admin.specs.QueueTable.{table_in, number_by, number_of_queues, nsqr_of, ncqr_of, nsq_by, ncq_by, class_of, as_closing, is_used, admin_sq, admin_cq, io_sq_in, io_cq_in, sq_regions_in, cq_regions_in, sq_named_in, cq_named_in, first_request_in, placing_in}
use Rattle.nvme_admin.specs.Accepted.{effects_of, queue_table}
use Rattle.nvme_admin.specs.Steps.{table_after}
use Rattle.nvme_admin.specs.Further.{AreSame, TablesBeginEmpty, TablesGoByCommands}
use Rattle.nvme_admin.proofs.Reached.{Passes, create_sq-found, create_cq-found, delete_sq-found, delete_cq-found}
use Rattle.nvme_admin.proofs.Changed.{under-admin}
use Rattle.nvme_admin.proofs.FurtherLemmas.{one-more, taken}

-- a region that is named is used
or-swap : (a b c : Bool) → (a || (b || c)) ≡ (b || (a || c))
or-swap true true c = refl
or-swap true false c = refl
or-swap false b c = refl

used-one : (o : Option ℕ) (n : ℕ) (named : List ℕ) (k : ℕ) → o ≡ Some n → is_used (option_to_list o ++ named) k ≡ (unwrap_or o 0 == k || is_used named k)
used-one o n named k is =
    subst (λ (x : Option ℕ). is_used (option_to_list x ++ named) k ≡ (unwrap_or x 0 == k || is_used named k)) (sym is)
    (or-swap (k == 0) (n == k) (list_any (λ (j : ℕ). j == k) named))

-- the numbers after a request
nsq-requested : (start : Start) (b : Bool) (o : Option ℕ) (x : ℕ)
    → nsq_by start (if b && is_none o then Some x else o) ≡ (if b && not (is_some o) then min (nsqr_of x + 1) (nsq_by start o) else nsq_by start o)
nsq-requested start true None x = refl
nsq-requested start true (Some y) x = refl
nsq-requested start false o x = refl

ncq-requested : (start : Start) (b : Bool) (o : Option ℕ) (x : ℕ)
    → ncq_by start (if b && is_none o then Some x else o) ≡ (if b && not (is_some o) then min (ncqr_of x + 1) (ncq_by start o) else ncq_by start o)
ncq-requested start true None x = refl
ncq-requested start true (Some y) x = refl
ncq-requested start false o x = refl

requested : (b : Bool) (o : Option ℕ) (x : ℕ) → is_some (if b && is_none o then Some x else o) ≡ (b || is_some o)
requested true None x = refl
requested true (Some y) x = refl
requested false o x = refl

or-none : (b : Bool) → (b || false) ≡ b
or-none true = refl
or-none false = refl

same-either : {A : Type 0} (b : Bool) (x : A) → (if b then x else x) ≡ x
same-either true x = refl
same-either false x = refl

module _ (start : Start) (e : Effects) where
  stepped : (command : AdminCommand) → Passes (table_in start e) command → AreSame (table_in start (Accepted command ∷ e)) (table_after (table_in start e) command)
  stepped (CreateSq qid qsize prp1 cqid qprio pc) h =
      let found = create_sq-found (table_in start e) qid qsize prp1 cqid qprio pc h in
      let region : ℕ = unwrap_or (number_by (placing_in e) (length (sq_named_in e)) (sq_regions_in e) prp1) 0 in
      let queue : SqEntry = record { region = region; cqid = cqid; class = class_of qprio; closing = false } in
      record {
        alike = record { sq = λ q. under-admin (λ _. Some queue) qid q (admin_sq (sq_regions_in e)) (io_sq_in e q) found.not_admin; cq = λ q. refl; sq_region_used = λ k. used-one _ found.region.number (sq_named_in e) k found.region.found; cq_region_used = λ k. refl; nsq = refl; ncq = refl; numbers_set = refl; created = refl; settings = refl; placing = refl; sqs_made = one-more _ found.region.number (sq_named_in e) found.region.found; cqs_made = refl };
        sq_regions = refl;
        cq_regions = refl;
      }
  stepped (CreateCq qid qsize prp1 pc) h =
      let found = create_cq-found (table_in start e) qid qsize prp1 pc h in
      let region : ℕ = unwrap_or (number_by (placing_in e) (length (cq_named_in e)) (cq_regions_in e) prp1) 0 in
      record {
        alike = record { sq = λ q. refl; cq = λ q. under-admin (λ _. Some region) qid q (admin_cq (cq_regions_in e)) (io_cq_in e q) found.not_admin; sq_region_used = λ k. refl; cq_region_used = λ k. used-one _ found.region.number (cq_named_in e) k found.region.found; nsq = refl; ncq = refl; numbers_set = refl; created = refl; settings = refl; placing = refl; sqs_made = refl; cqs_made = one-more _ found.region.number (cq_named_in e) found.region.found };
        sq_regions = refl;
        cq_regions = refl;
      }
  stepped (DeleteSq qid) h =
      let found = delete_sq-found (table_in start e) qid h in
      record {
        alike = record { sq = λ q. under-admin (option_map as_closing) qid q (admin_sq (sq_regions_in e)) (io_sq_in e q) found.0; cq = λ q. refl; sq_region_used = λ k. refl; cq_region_used = λ k. refl; nsq = refl; ncq = refl; numbers_set = refl; created = refl; settings = refl; placing = refl; sqs_made = refl; cqs_made = refl };
        sq_regions = refl;
        cq_regions = refl;
      }
  stepped (DeleteCq qid) h =
      let found = delete_cq-found (table_in start e) qid h in
      record {
        alike = record { sq = λ q. refl; cq = λ q. under-admin (λ _. None) qid q (admin_cq (cq_regions_in e)) (io_cq_in e q) found.0; sq_region_used = λ k. refl; cq_region_used = λ k. refl; nsq = refl; ncq = refl; numbers_set = refl; created = refl; settings = refl; placing = refl; sqs_made = refl; cqs_made = refl };
        sq_regions = refl;
        cq_regions = refl;
      }
  stepped (SetFeatures fid sv cdw11) h = record {
    alike = record { sq = λ q. refl; cq = λ q. refl; sq_region_used = λ k. refl; cq_region_used = λ k. refl; nsq = nsq-requested start (fid == number_of_queues) (first_request_in e) cdw11; ncq = ncq-requested start (fid == number_of_queues) (first_request_in e) cdw11; numbers_set = requested (fid == number_of_queues) (first_request_in e) cdw11; created = refl; settings = refl; placing = refl; sqs_made = refl; cqs_made = refl };
    sq_regions = refl;
    cq_regions = refl;
  }
  stepped (GetFeatures fid) h = record { alike = record { sq = λ q. refl; cq = λ q. refl; sq_region_used = λ k. refl; cq_region_used = λ k. refl; nsq = refl; ncq = refl; numbers_set = refl; created = refl; settings = refl; placing = refl; sqs_made = refl; cqs_made = refl }; sq_regions = refl; cq_regions = refl }
  stepped (Abort sqid cid) h = record { alike = record { sq = λ q. refl; cq = λ q. refl; sq_region_used = λ k. refl; cq_region_used = λ k. refl; nsq = refl; ncq = refl; numbers_set = refl; created = refl; settings = refl; placing = refl; sqs_made = refl; cqs_made = refl }; sq_regions = refl; cq_regions = refl }
  stepped Other h = record { alike = record { sq = λ q. refl; cq = λ q. refl; sq_region_used = λ k. refl; cq_region_used = λ k. refl; nsq = refl; ncq = refl; numbers_set = refl; created = refl; settings = refl; placing = refl; sqs_made = refl; cqs_made = refl }; sq_regions = refl; cq_regions = refl }

pub tables-go_by_commands : TablesGoByCommands
unfolding queue_table
tables-go_by_commands start h entry accepted =
    let t = taken start h entry (admin_command_of entry) refl accepted in
    subst (λ (after : Effects). AreSame (table_in start after) (table_after (table_in start (effects_of start h)) (admin_command_of entry))) (sym t.0)
    (stepped start (effects_of start h) (admin_command_of entry) t.1)

pub tables-begin_empty : TablesBeginEmpty
unfolding effects_of queue_table
tables-begin_empty start = record {
  alike = record { sq = λ q. same-either (q == 0) None; cq = λ q. same-either (q == 0) None; sq_region_used = λ k. or-none (k == 0); cq_region_used = λ k. or-none (k == 0); nsq = refl; ncq = refl; numbers_set = refl; created = refl; settings = refl; placing = refl; sqs_made = refl; cqs_made = refl };
  sq_regions = refl;
  cq_regions = refl;
}
