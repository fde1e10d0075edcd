use Rattle.std.proofs.Common.{refl}
use Rattle.hex.proofs.HexLemmas.{IsOk-decode_sized, IsOk-written}
use Rattle.hex.specs.Hex.{decode_sized}
use Rattle.nvme_words.proofs.entries.decoded.Goals as goal

pub returns-in-Ok-clause-digits : goal.returns-in-Ok-clause-digits
returns-in-Ok-clause-digits c =
    let written = IsOk-written (decode_sized c.args.text.now 64) _ _ c.decode_to_slice.ensures.value in
    let sized = IsOk-decode_sized c.args.text.now 64 in
    let ok = written.0 (rw c.in-Ok.is refl) in
    (λ _. (sized.0 ok).1, λ _. refl)

pub returns-in-Err-clause-digits : goal.returns-in-Err-clause-digits
returns-in-Err-clause-digits c =
    let written = IsOk-written (decode_sized c.args.text.now 64) _ _ c.decode_to_slice.ensures.value in
    let sized = IsOk-decode_sized c.args.text.now 64 in
    (λ no. cc no, λ digits. rw c.in-Err.is at (written.1 (sized.1 (c.requires, digits))))
