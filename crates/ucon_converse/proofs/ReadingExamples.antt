-- Readings behind two tries of one seat, of which the second is denied.
use Rattle.std.proofs.Common.{◌≡◌, ℕ, [], ◌∷◌, refl}
use Rattle.std.specs.Prelude.{pos, codes}
use Rattle.std.specs.Fmt.{digits}
use Rattle.json.specs.Print.{escape_byte}
use Rattle.ucon_base.specs.declared.value.Kind.TheVariants as kinds
use Rattle.ucon_base.specs.declared.value.Side.TheVariants.{Subject, Object}
use Rattle.ucon_base.specs.declared.value.Value.TheVariants as values
use Rattle.ucon_model.specs.declared.command.Command.{Command}
use Rattle.ucon_model.specs.declared.command.Command.TheVariants as commands
use Rattle.ucon_model.specs.declared.command.Entry.{Entry}
use Rattle.ucon_model.specs.declared.formula.Op.TheVariants.{Lt}
use Rattle.ucon_model.specs.declared.formula.Ref.TheVariants as refs
use Rattle.ucon_model.specs.declared.policy.Phase.TheVariants.{Pre}
use Rattle.ucon_model.specs.declared.policy.When.TheVariants.{Before}
use Rattle.ucon_model.specs.History.{History}
use Rattle.ucon_model.specs.Plain.{Bytes, PlainPolicy, lit, read, plus, compare, authorisation}
use Rattle.ucon_converse.specs.declared.reading.Reading.{Reading}
use Rattle.ucon_converse.specs.declared.reading.Reading.TheVariants.{Session, Using, UsingOf, Explain, Policy, Steps}
use Rattle.ucon_converse.specs.Readings.{line_told}

-- `attr o users : int 0..9 = 0; right sit { pre a free: o.users < 1; before o.users = o.users + 1; }`
abbrev seat : PlainPolicy
seat = record {
  attrs = record { side = Object; name = codes "users"; kind = kinds.Int (pos 0) (pos 9); start = values.Int (pos 0) } ∷ [];
  envs = [];
  rights = record {
    name = codes "sit";
    preds = record { phase = Pre; label = codes "free"; test = authorisation (compare Lt (read (refs.Object (codes "users"))) (lit (values.Int (pos 1)))) } ∷ [];
    updates = record { when = Before; side = Object; attr = codes "users"; value = plus (read (refs.Object (codes "users"))) (lit (values.Int (pos 1))) } ∷ [];
  } ∷ [];
}

abbrev text : Bytes
text = codes "right \"\n"

abbrev by : ℕ → Command → Entry
by client command = record { caller = record { 0 = client }; command = command }

abbrev sat : History
sat = by 0 (commands.Subject (codes "ann")) ∷ by 0 (commands.Subject (codes "ben")) ∷ by 0 (commands.Object (codes "desk"))
    ∷ by 1 (commands.Try (codes "ann") (codes "sit") (codes "desk")) ∷ by 2 (commands.Try (codes "ben") (codes "sit") (codes "desk")) ∷ []

abbrev told : Reading → Bytes
told reading = line_told seat text sat reading

the_steps : told Steps ≡ codes "- 5 steps\n"
unfolding digits
the_steps = refl

the_first : told (Session 1) ≡ codes "- 5 session 1 1 ann sit desk accessing 0\n"
unfolding digits
the_first = refl

the_second : told (Session 2) ≡ codes "- 5 session 2 2 ben sit desk denied 0\n"
unfolding digits
the_second = refl

no_third : told (Session 3) ≡ codes "- 5 no session\n"
unfolding digits
no_third = refl

who_uses : told Using ≡ codes "- 5 using 1\n"
unfolding digits
who_uses = refl

what_ann_uses : told (UsingOf Subject (codes "ann")) ≡ codes "- 5 using 1\n"
unfolding digits
what_ann_uses = refl

what_ben_uses : told (UsingOf Subject (codes "ben")) ≡ codes "- 5 using\n"
unfolding digits
what_ben_uses = refl

who_uses_the_desk : told (UsingOf Object (codes "desk")) ≡ codes "- 5 using 1\n"
unfolding digits
who_uses_the_desk = refl

why_ben_is_denied : told (Explain (codes "ben") (codes "sit") (codes "desk")) ≡ codes "- 5 pre free a false;   read o.users 1; verdict deny free\n"
unfolding digits
why_ben_is_denied = refl

no_chair : told (Explain (codes "ben") (codes "sit") (codes "chair")) ≡ codes "- 5 no object\n"
unfolding digits
no_chair = refl

the_policy : told Policy ≡ codes "- 5 \"right \\\"\\n\"\n"
unfolding digits escape_byte
the_policy = refl
