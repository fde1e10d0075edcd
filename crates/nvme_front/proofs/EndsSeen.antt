-- A front's view of its ends, and what it accounts for.
use Rattle.std.proofs.Common.{◌≡◌, ℕ, ◌<◌, false, List, [], ◌++◌, length, refl, sym, ap, ◌∙◌, subst}
use Rattle.std.proofs.lemmas.List.{append-nil, length-map}
use Rattle.nvme_lane.proofs.Prefixes.{IsPrefix-trans}
use Rattle.nvme_entry.specs.declared.submission.Sqe.{Sqe}
use Rattle.nvme_entry.specs.declared.completion.Cqe.{Cqe}
use Rattle.nvme_front.specs.declared.state.FrontState.{FrontState}
use Rattle.nvme_front.specs.declared.region.SqRegion.{SqRegion}
use Rattle.nvme_log.specs.Rules.{Past}
use Rattle.nvme_log.specs.Places.{fetched}
use Rattle.nvme_log.specs.Completions.{posted_to}
use Rattle.nvme_log.specs.Account.{IsAccount}
use Rattle.nvme_ctrl_log.specs.Notes.{logged}
use Rattle.nvme_engine.proofs.Accounts.{engines_keep_accounts}
use Rattle.nvme_front.specs.inside.State.{rules_of, past_of, view_of}
use Rattle.nvme_front.specs.inside.Room.{IsConsistent, IsRunning}
use Rattle.nvme_front.specs.inside.Goes.{Goes, HasAdmin}
use Rattle.nvme_front.specs.View.{FrontView, got_in, known_in, sent_in, AccountsForEnds, GoesOn}
use Rattle.nvme_front.proofs.States.{SameSeat-refl, rules-goes}
use Rattle.nvme_front.proofs.Comes.{comes-seen}

-- the admin regions are there where the view has ends of both kinds
pub admin_there : (s : FrontState) (v : FrontView) → view_of s ≡ v → 0 < length v.gets → 0 < length v.puts → HasAdmin s
admin_there s v is gets puts =
    let sqs : length v.gets ≡ length s.sqs.items = ap (λ (x : FrontView). length x.gets) (sym is) ∙ length-map s.sqs.items (λ (x : SqRegion). x.end) in
    let cqs : length v.puts ≡ length s.cqs.items = ap (λ (x : FrontView). length x.puts) (sym is) in
    (subst (λ (n : ℕ). 0 < n) sqs gets, subst (λ (n : ℕ). 0 < n) cqs puts)

-- the log of a front that runs accounts for its ends, where no region was added late
accounts_at : (s : FrontState) → IsRunning s → s.late ≡ false → AccountsForEnds (view_of s)
accounts_at s k late =
    let account : IsAccount (rules_of s) (fetched (logged k.notes)) (logged k.notes) (posted_to (logged k.notes)) =
    engines_keep_accounts (rules_of s) k.notes s.engine (rw (← late) k.stands) in
    let got : got_in (view_of s) ≡ fetched (past_of s) = λ t r. sym (k.got r) t in
    let sent : sent_in (view_of s) ≡ posted_to (past_of s) = λ t c. sym (k.sent c) t in
    let at_past : IsAccount (rules_of s) (fetched (past_of s)) (past_of s) (posted_to (past_of s)) =
    subst (λ (p : Past). IsAccount (rules_of s) (fetched p) p (posted_to p)) k.past_is account in
    record {
      account =
          subst (λ (f : ℕ → List Sqe). IsAccount (rules_of s) f (past_of s) (sent_in (view_of s))) (sym got)
          (subst (λ (f : ℕ → List Cqe). IsAccount (rules_of s) (fetched (past_of s)) (past_of s) f) (sym sent) at_past);
      all_fetched = k.got;
      all_posted = k.sent;
    }

-- the log of a front accounts for its ends, where both admin regions are there and no region was added late
pub accounts_for_ends : (s : FrontState) → IsConsistent s → HasAdmin s → s.late ≡ false → AccountsForEnds (view_of s)
accounts_for_ends s kept admin late = accounts_at s (kept.running admin) late

-- the view of the same front later on goes on from its view before
pub view_goes_on : (a b : FrontState) → Goes a b → GoesOn (view_of a) (view_of b)
view_goes_on a b g = record {
  grew = g.grew;
  rules = rules-goes a b g;
  limit = λ t. (g.config t).max_events;
  late = g.late;
  gets = g.gets;
  puts = g.puts;
  comes = comes-seen a b g.comes;
  came = g.came;
  seat = g.seat;
}

-- the same front, and one later on than another
pub GoesOn-refl : (v : FrontView) → GoesOn v v
GoesOn-refl v = record {
  grew = ([], append-nil v.log);
  rules = refl;
  limit = refl;
  late = refl;
  gets = refl;
  puts = refl;
  comes = λ r. ([], append-nil (got_in v r ++ known_in v r));
  came = refl;
  seat = SameSeat-refl v.hands.seat;
}

pub GoesOn-trans : (u v w : FrontView) → GoesOn u v → GoesOn v w → GoesOn u w
GoesOn-trans u v w g h = record {
  grew = IsPrefix-trans u.log v.log w.log g.grew h.grew;
  rules = h.rules ∙ g.rules;
  limit = h.limit ∙ g.limit;
  late = h.late ∙ g.late;
  gets = h.gets ∙ g.gets;
  puts = h.puts ∙ g.puts;
  comes = λ r. IsPrefix-trans (got_in u r ++ known_in u r) (got_in v r ++ known_in v r) (got_in w r ++ known_in w r) (g.comes r) (h.comes r);
  came = h.came ∙ g.came;
  seat = record { lane = h.seat.lane ∙ g.seat.lane; parts = h.seat.parts ∙ g.seat.parts; rings = h.seat.rings ∙ g.seat.rings };
}
