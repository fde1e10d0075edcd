-- Requests as a queue asks for them, one after another.
use Rattle.std.proofs.Common.{◌≡◌, ◌∙◌, ℕ, ◌+◌, ◌<◌, List, [], ◌∷◌, ◌++◌, Option, Some, length, get_or, map, take, ap, sym}
use Rattle.std.proofs.lemmas.List.{map-append, map_more}
use Rattle.nvme_load.specs.declared.replay.Request.{Request}
use Rattle.nvme_replay.specs.declared.requests.Lined.{Lined}

abbrev pub there : Request → Option Request
there r = Some r

-- one more
pub asked_more : (asked : Lined → Option Request) (lined : List Lined) (requests next : List Request) (i : ℕ) (d : Lined) (r : Request) → i < length lined
    → Some r ≡ asked (get_or lined i d) → next ≡ requests ++ r ∷ [] → map there requests ≡ map asked (take i lined)
    → map there next ≡ map asked (take (i + 1) lined)
asked_more asked lined requests next i d r l is so same =
    ap (λ (v : List Request). map there v) so ∙ (map-append there requests (r ∷ [])
    ∙ (ap (λ (v : List (Option Request)). v ++ Some r ∷ []) same
    ∙ (ap (λ (v : Option Request). map asked (take i lined) ++ v ∷ []) is ∙ sym (map_more asked lined i d l))))
