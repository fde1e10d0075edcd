-- Which admin commands were passed on stays so.
use Rattle.std.proofs.Common.{◌≡◌, ℕ, ◌==◌, ◌&&◌, ◌||◌, Bool, true, false, List, ◌++◌, Option, Some, refl, sym, ap, ◌∙◌, subst}
use Rattle.std.specs.Prelude.{not}
use Rattle.std.specs.List.{All}
use Rattle.std.proofs.lemmas.Bool.{eqb-true}
use Rattle.std.proofs.lemmas.List.Elements.{All-weaker, All-append}
use Rattle.nvme_log.specs.Places.{fate_of, is_waiting}
use Rattle.nvme_log.specs.declared.place.Place.{Place}
use Rattle.nvme_log.proofs.Members.{in-all, in-append_left}
use Rattle.nvme_ctrl_log.specs.Notes.{Notes, logged}
use Rattle.nvme_ctrl_log.specs.Tags.{is_passed, is_of_device, handed, taken, holder}
use Rattle.nvme_ctrl.specs.declared.state.Controller.{Controller}
use Rattle.nvme_slots.specs.declared.slot.Slot.{Slot}
use Rattle.nvme_ctrl_content.specs.Content.{Content}
use Rattle.nvme_ctrl.specs.kept.Kept.{Item, DeleteItem, Items, HoldsTags, IsDevices, IsReadyOf, HoldsPassed, is_passed_at, untaken, places_of}
use Rattle.nvme_ctrl_content.proofs.OwnStatus.{All-unmap}
use Rattle.nvme_ctrl.proofs.SlotItems.{All-parts}
use Rattle.nvme_ctrl_log.proofs.TagLaws.{holder-taken}

-- the same notes, completions and deletions
pub passed_left : (notes : Notes) (f g : Items) → ((x : ℕ) → g.readies x ≡ f.readies x) → g.deletes ≡ f.deletes → HoldsPassed notes f → HoldsPassed notes g
passed_left notes f g readies deletes h = record {
  all_handed = h.all_handed;
  served = h.served;
  readies = λ x. subst (All (IsReadyOf notes)) (sym (readies x)) (h.readies x);
  deletes = subst (λ (f : ℕ → Option DeleteItem). (r : ℕ) (it : DeleteItem) → f r ≡ Some it → is_passed notes it.index ≡ false) (sym deletes) h.deletes;
}

-- other notes, which pass on and hand over the same
pub passed_later : (notes later : Notes) (g : Items) → ((i : ℕ) → is_passed later i ≡ is_passed notes i) → handed later ≡ handed notes
    → ((i : ℕ) → is_waiting (fate_of (logged notes) 0 i) ≡ false → is_waiting (fate_of (logged later) 0 i) ≡ false)
    → HoldsPassed notes g → HoldsPassed later g
passed_later notes later g same hands stays h = record {
  all_handed = subst (All (IsDevices later)) (sym hands)
      (All-weaker (IsDevices notes) (IsDevices later) (λ p is. ap (λ (b : Bool). not (p.region == 0) || b) (same p.index) ∙ is) (handed notes) h.all_handed);
  served = λ i is. stays i (h.served i (sym (same i) ∙ is));
  readies = λ x. All-weaker (IsReadyOf notes) (IsReadyOf later) (λ y is. is ∙ ap (λ (b : Bool). y.ready.place.region == 0 && b) (sym (same y.ready.place.index))) (g.readies x) (h.readies x);
  deletes = λ r it is. same it.index ∙ h.deletes r it is;
}

-- what a tag stands for is the device's
pub held_is_devices : (notes : Notes) (c : Controller) (k : Content) (g : Items) → handed notes ≡ taken notes ++ places_of (untaken c k g) → HoldsPassed notes g
    → (t : ℕ) (p : Place) → holder notes t ≡ Some p → IsDevices notes p
held_is_devices notes c k g hands h t p held =
    in-all (IsDevices notes) p (taken notes ++ places_of (untaken c k g)) (subst (All (IsDevices notes)) hands h.all_handed)
    (in-append_left p (taken notes) (places_of (untaken c k g)) (holder-taken notes t p held))

-- of the admin queue just what was passed on is
pub devices_passed : (notes : Notes) (p : Place) → IsDevices notes p → (p.region == 0) ≡ is_passed_at notes p
devices_passed notes p is = by (p.region == 0) (is_passed notes p.index) is where
  by : (a b : Bool) → (not a || b) ≡ true → a ≡ (a && b)
  by true true h = refl
  by true false h = cc h
  by false b h = refl

-- and a command that wasn't passed on is another
pub not_passed : (notes : Notes) (p : Place) (i : ℕ) → IsDevices notes p → is_passed notes i ≡ false → (0 == p.region && i == p.index) ≡ false
not_passed notes p i is none = by (0 == p.region) (i == p.index) refl refl where
  by : (a b : Bool) → (0 == p.region) ≡ a → (i == p.index) ≡ b → (a && b) ≡ false
  by true true e f =
      let here : is_of_device notes 0 i ≡ true = subst (λ (r : ℕ). is_of_device notes r i ≡ true) (sym (eqb-true 0 p.region e))
      (subst (λ (j : ℕ). is_of_device notes p.region j ≡ true) (sym (eqb-true i p.index f)) is) in
      absurd (cc (here, none))
  by true false e f = refl
  by false b e f = refl

-- what the device has, or is to take, is its own
pub hand_is_devices : (notes : Notes) (c : Controller) (slots : List Slot) (k : Content) (g : Items) → HoldsTags notes c slots k g → All (λ (it : Item). IsDevices notes it.place) (g.outs ++ untaken c k g)
hand_is_devices notes c slots k g t =
    All-append (λ (it : Item). IsDevices notes it.place) g.outs (untaken c k g)
    (All-weaker (λ (it : Item). holder notes it.tag ≡ Some it.place) (λ (it : Item). IsDevices notes it.place)
    (λ it held. held_is_devices notes c k g t.untaken_are t.passed it.tag it.place held) g.outs t.held.outs)
    (All-unmap (IsDevices notes) (λ (it : Item). it.place) (untaken c k g)
    (All-parts (IsDevices notes) (taken notes) (places_of (untaken c k g)) (subst (All (IsDevices notes)) t.untaken_are t.passed.all_handed)).1)
