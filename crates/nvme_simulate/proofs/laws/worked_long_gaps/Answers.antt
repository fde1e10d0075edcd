use Rattle.std.proofs.Common.{◌≡◌, ℕ, ◌+◌, ◌*◌, ◌^◌, ◌<◌, ◌≤◌, List, Some, None, refl, sym, ◌∙◌, ap, subst, arith, inl, inr}
use Rattle.std.specs.Prelude.{slice_get}
use Rattle.std.proofs.lemmas.Option.{same_Some, none-some}
use Rattle.nvme_model_form.specs.Views.{Asking, ByGap, BehindOthers}
use Rattle.nvme_simulate.specs.Examples.{long_second, reads}
use Rattle.nvme_simulate.specs.Scaling.{HasLongGap, IsLongGapOf, IsTooLong, scaled_gap}
use Rattle.nvme_simulate.proofs.laws.worked_long_gaps.Goals as goal

-- a gap up to the most, whose load is to be reached and whose reckoning has 128 bits, isn't too long
fits : (offered target most gap : ℕ) → 0 < target → gap * offered * 2 + target * 2 < 2 ^ 128 → scaled_gap offered target gap ≤ most → IsTooLong offered target most gap → ⊥
fits offered target most gap some bits short (inl none) = omega arith
fits offered target most gap some bits short (inr (inl many)) = omega arith
fits offered target most gap some bits short (inr (inr long)) = omega arith

-- the queue of a number is the one that stands there
has_it : (offered target place : ℕ) (queues : List Asking) (queue : Asking) → slice_get queues place ≡ Some queue → IsLongGapOf offered target (place + 1) queues
    → HasLongGap offered target queue.coming
has_it offered target place queues queue there g =
    let here : g.place ≡ place = omega (arith, g.number_is) in
    let it : g.queue ≡ queue = same_Some g.queue queue (sym g.is_there ∙ ap (slice_get queues) here ∙ there) in
    subst (λ (q : Asking). HasLongGap offered target q.coming) it g.long

-- none stands past the end
none_has_it : (offered target place : ℕ) (queues : List Asking) → slice_get queues place ≡ None → IsLongGapOf offered target (place + 1) queues → ⊥
none_has_it offered target place queues past g =
    let here : g.place ≡ place = omega (arith, g.number_is) in
    none-some g.queue (sym past ∙ sym (ap (slice_get queues) here) ∙ g.is_there)

pub returns : goal.returns
returns c = record {
  no_load = inl refl;
  least_load = fits 1 1 0xffff_ffff_ffff_ffff 1 (omega arith) (omega arith) (omega arith);
  too_many_bits = inr (inl (omega arith));
  all_bits = fits 0x8000_0000_0000_0000 0x3fff_ffff_ffff_ffff_ffff_ffff_ffff_ffff 0xffff_ffff_ffff_ffff 0x8000_0000_0000_0000 (omega arith) (omega arith) (omega arith);
  longest_mean = fits 1 1 0x03ff_ffff_ffff_ffff 0x03ff_ffff_ffff_ffff (omega arith) (omega arith) (omega arith);
  mean_too_long = inr (inr (omega arith));
  longest_in_bursts = fits 1 1 0x03ff_ffff_ffff_ffff 0x03ff_ffff_ffff_ffff (omega arith) (omega arith) (omega arith);
  too_long_in_bursts = inr (inr (omega arith));
  longest_gap = fits 1 1 0xffff_ffff_ffff_ffff 0xffff_ffff_ffff_ffff (omega arith) (omega arith) (omega arith);
  gap_too_long = inr (inr (omega arith));
  behind_others = λ h. h;
  replayed = λ h. h;
  second = record { place = 1; number_is = refl; queue = _; is_there = refl; long = inr (inr (omega arith)) };
  not_first = λ g. fits 2 1 0xffff_ffff_ffff_ffff 50_000_000 (omega arith) (omega arith) (omega arith) (has_it 2 1 0 long_second (reads (ByGap 50_000_000)) refl g);
  not_third = λ g. has_it 2 1 2 long_second (reads (BehindOthers 8 0)) refl g;
  no_fourth = λ g. none_has_it 2 1 3 long_second refl g;
}
