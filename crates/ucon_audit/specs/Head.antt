-- The head of a journal: a chain of SHA-256 digests (FIPS 180-4) over its records, and its text.
use Rattle.std.specs.Prelude.{◌≡◌, ◌==◌, ℕ, Bool, false, ◌&&◌, ◌||◌, nat_le, List, [], ◌∷◌, ◌++◌, length, take, Option, Some, None, bytes_eq}
use Rattle.std.specs.List.{list_all}
use Rattle.hex.specs.Hex.{encode_lower}
use Rattle.sha2.specs.Sha256.{sha256}
use Rattle.ucon_model.specs.Plain.{Bytes}
use Rattle.ucon_audit.specs.declared.chain.Chain.{Chain}
use Rattle.ucon_audit.specs.declared.head.Kept.{Kept}

-- the head after these payloads, from the head before them: each is SHA-256 of the one before it, followed by the payload
abbrev pub head_from : Bytes → List Bytes → Bytes
head_from head [] = head
head_from head (payload ∷ payloads) = head_from (sha256 (head ++ payload)) payloads

-- the head after these payloads of a journal whose file begins with these 8 bytes
abbrev pub head_after : Bytes → List Bytes → Bytes
head_after magic payloads = head_from (sha256 magic) payloads

-- the text of a head: each byte in two digits
abbrev pub head_text : Bytes → Bytes
head_text head = encode_lower head

-- `0` to `9` and `a` to `f`
abbrev pub is_head_digit : ℕ → Bool
is_head_digit c = (nat_le 48 c && nat_le c 57) || (nat_le 97 c && nat_le c 102)

-- whether a text is 64 such digits
abbrev pub is_head_text : Bytes → Bool
is_head_text text = (length text == 64) && list_all is_head_digit text

-- ---- a head that was kept

-- whether this head, after so many records, is the kept one; if none was kept it isn't
abbrev pub is_kept : Option Kept → ℕ → Bytes → Bool
is_kept None records head = false
is_kept (Some kept) records head = (kept.records == records) && bytes_eq (head_text head) kept.digits

-- whether a journal with these payloads goes on from what was kept: it has as many, and the head after so many of them has the kept text
abbrev pub extends_kept : Kept → Bytes → List Bytes → Bool
extends_kept kept magic payloads =
    nat_le kept.records (length payloads) && bytes_eq (head_text (head_after magic (take kept.records payloads))) kept.digits

abbrev pub extends : Option Kept → Bytes → List Bytes → Bool
extends None magic payloads = false
extends (Some kept) magic payloads = extends_kept kept magic payloads

-- a chain stands behind these payloads of a journal whose file begins with these 8 bytes
pub record IsChain (kept : Option Kept) (magic : Bytes) (payloads : List Bytes) (chain : Chain) : Type 0 where
  pub kept_is : chain.kept ≡ kept
  pub records : chain.records ≡ length payloads
  pub head : chain.head ≡ head_after magic payloads
  pub extends_is : chain.extends ≡ extends kept magic payloads
