-- Comparing acts.
use Rattle.std.proofs.Common.{◌≡◌, Bool, true, false, ◌&&◌, refl}
use Rattle.std.specs.Str.{bytes_eq}
use Rattle.ucon_state.specs.declared.act.Act.{Act}
use Rattle.ucon_state.specs.Tables.{same_act}

and_assoc : (p q r : Bool) → (p && q) && r ≡ p && (q && r)
and_assoc true q r = refl
and_assoc false q r = refl

-- two acts are compared by their three names, in any grouping
pub same_test : (a : Act) → same_act a ≡ (λ b. bytes_eq a.subject b.subject && (bytes_eq a.action b.action && bytes_eq a.object b.object))
same_test a = λ j b. and_assoc (bytes_eq a.subject b.subject) (bytes_eq a.action b.action) (bytes_eq a.object b.object) j
