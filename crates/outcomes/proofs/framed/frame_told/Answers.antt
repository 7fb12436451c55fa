use mathlib.Core.Path.{◌≡◌, ap, ◌∙◌, subst}
use mathlib.Core.List.{List}
use Prim.Native.Nat.{ℕ}
use lib.ListN.{length, take}
use borrow.Author.Rules.{rules}
use Rattle.edition.specs.declared.Framing.{Framing}
use Rattle.edition.specs.declared.Framing.TheVariants.{Udp}
use Rattle.telling.specs.Forms.{Says}
use Rattle.telling.specs.Replies.{decoded_line, frame_line}
use Rattle.commands.specs.declared.options.Options.{Options}
use Rattle.outcomes.specs.Kept.{roots_of}
use Rattle.outcomes.specs.Told.{decoded_with, trees_with, DecodeTold}
use Rattle.outcomes.specs.Framed.{without_end, as_indexed, packet_words}
use Rattle.outcomes.specs.declared.Told.{Told}
use Rattle.outcomes.proofs.framed.frame_told.Goals as goal

-- the same options by another name
with-options : {framing : Framing} {o p : Options} {msg table line : List ℕ} {told : Told} → o ≡ p
    → DecodeTold framing o msg table line told
    → DecodeTold framing p msg table line told
with-options e d = rw e at d

-- the line of a packet alone
abbrev said : List ℕ → List ℕ
said packet = decoded_line (roots_of (trees_with Udp as_indexed packet)) (length packet) (decoded_with Udp as_indexed packet)

-- the line of the frame, from the line of its packet
framed : {line words front whole : List ℕ} {n t : ℕ} (packet : List ℕ) (at : ℕ) → Says (said packet) whole t → front ≡ take t whole
    → words ≡ without_end front → Says (frame_line at (length packet) words) line n → length whole ≡ 4096
    → Says (frame_line at (length packet) (packet_words packet)) line n
framed {line} {words} {front} {whole} {n} {t} packet at d f e s l =
    subst (λ (w : List ℕ). Says (frame_line at (length packet) w) line n)
    (e ∙ ap (λ (w : List ℕ). without_end w) (f ∙ d.says ∙ ap (λ (k : ℕ). take k (said packet)) l)) s

pub returns : goal.returns
returns c =
    let a = c.args in
    let d = with-options c.as_indexed.ensures c.decode_told-told.ensures in
    record {
      kept = d.kept;
      counts = d.counts;
      bytes = d.bytes;
      says = framed a.packet.now a.at d.says c.front.ensures c.until_end.ensures c.tell_frame-n.ensures
          (search rules);
    }
