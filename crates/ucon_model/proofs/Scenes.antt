-- Words for the worked rows: who says what, and short policies.
use Rattle.std.proofs.Common.{ℕ, [], ◌∷◌}
use Rattle.std.specs.Prelude.{pos, Option, Some, None}
use Rattle.ucon_base.specs.declared.value.Side.{Side}
use Rattle.ucon_base.specs.declared.value.Kind.TheVariants as kinds
use Rattle.ucon_base.specs.declared.value.Value.TheVariants as values
use Rattle.ucon_model.specs.declared.command.Command.{Command}
use Rattle.ucon_model.specs.declared.command.Command.TheVariants as commands
use Rattle.ucon_model.specs.declared.command.Entry.{Entry}
use Rattle.ucon_model.specs.declared.formula.Form.{Form}
use Rattle.ucon_model.specs.declared.formula.Ref.TheVariants as refs
use Rattle.ucon_model.specs.declared.policy.AttrDecl.{AttrDecl}
use Rattle.ucon_model.specs.declared.reply.Head.TheVariants as heads
use Rattle.ucon_model.specs.declared.reply.Revoked.{Revoked}
use Rattle.ucon_model.specs.Plain.{Bytes, PlainExpr, lit, read, PlainTest, duty, PlainPolicy, PlainReply, made}

-- a policy that declares nothing, and how texts are read where the empty one alone is a policy's
abbrev pub empty_policy : PlainPolicy
empty_policy = record { attrs = []; envs = []; rights = [] }

abbrev pub reads_empty : Bytes → Option PlainPolicy
reads_empty [] = Some empty_policy
reads_empty (b ∷ bs) = None

-- a client's line
abbrev pub by : ℕ → Command → Entry
by client c = record { caller = record { 0 = client }; command = c }

-- client 0's line that moves the tick
abbrev pub tick_to : ℕ → Entry
tick_to t = by 0 (commands.Tick (pos t))

-- client 0's line that replaces the policy in force
abbrev pub amended : Bytes → PlainPolicy → Entry
amended text policy = by 0 (commands.Amend (record { text = text; policy = policy }))

-- an integer attribute with its range and default
abbrev pub int_attr : Side → Bytes → ℕ → ℕ → ℕ → AttrDecl
int_attr side name low high start = record { side = side; name = name; kind = kinds.Int (pos low) (pos high); start = values.Int (pos start) }

abbrev pub int : ℕ → PlainExpr
int n = lit (values.Int (pos n))

-- the session's own subject's attribute, and its object's
abbrev pub subject's : Bytes → PlainExpr
subject's name = read (refs.Subject name)

abbrev pub object's : Bytes → PlainExpr
object's name = read (refs.Object name)

-- an obligation of the session's own subject, on its own object
abbrev pub own_duty : Form → Bytes → PlainTest
own_duty form action = duty (record { form = form; action = action; by_subject = None; on_object = None })

abbrev pub revoked : ℕ → Bytes → Revoked
revoked n label = record { session = n; label = label }

-- the reply `ok`
abbrev pub ok : PlainReply
ok = made heads.Ok []
