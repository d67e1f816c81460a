-- What a voice notes while it is told a text, piece by piece.
use Rattle.std.proofs.Common.{◌≡◌, inl, inr, ⊎_elim, ℕ, List, take, drop, sym, ◌∙◌, take-append-drop}
use Rattle.std.specs.Prelude.{Option, Some, None, IfSome}
use Rattle.std.specs.Io.KnownBytes.{Appends}
use Rattle.ucon_tell.specs.Seen.{VoiceSeen}
use Rattle.ucon_tell.specs.Told.{IsCut, Notes, TellsFronts}

-- what is held now is what was held at first, with a front of the bytes behind it
now_front : (held now : Option (List ℕ)) (bytes : List ℕ) (k : ℕ) (b : List ℕ) → Appends held now (take k bytes) → IfSome now (λ all. b ≡ all) → IfSome held (λ before. IsCut before bytes b)
now_front None now bytes k b p q = tt
now_front (Some x) None bytes k b p q = absurd p
now_front (Some x) (Some y) bytes k b p q = (take k bytes, (drop k bytes, sym (take-append-drop k bytes)), q ∙ p)

-- one write more, after which the sink holds a front of the text
pub tells_on : (old mid new : VoiceSeen) (bytes : List ℕ) (k moment : ℕ) → TellsFronts old mid bytes moment → Notes mid new moment → Appends old.contents new.contents (take k bytes) → TellsFronts old new bytes moment
tells_on old mid new bytes k moment tells notes appended = record {
  kept = λ b t is. notes.kept b t (tells.kept b t is);
  nothing_else = λ b t is. ⊎_elim (λ (m : mid.told b t). tells.nothing_else b t m)
      (λ (h : (t ≡ moment) × IfSome new.contents (λ all. b ≡ all)). inr (h.0, now_front old.contents new.contents bytes k b appended h.1)) (notes.nothing_else b t is);
}

pub tells_nothing : (v : VoiceSeen) (bytes : List ℕ) (moment : ℕ) → TellsFronts v v bytes moment
tells_nothing v bytes moment = record { kept = λ b t is. is; nothing_else = λ b t is. inl is }
