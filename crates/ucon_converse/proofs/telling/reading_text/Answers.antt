use Rattle.std.proofs.Common.{ℕ, ◌++◌, sym, ap, subst, ◌∙◌}
use Rattle.serde_json.specs.Written.{compact_text}
use Rattle.ucon_audit.specs.Report.{tree_of}
use Rattle.ucon_audit.specs.Usages.{usages}
use Rattle.ucon_explain.specs.Text.{try_spelling}
use Rattle.ucon_model.specs.Action.{Trace}
use Rattle.ucon_model.specs.History.{History, trace, trace_from}
use Rattle.ucon_model.specs.Output.{Lacks}
use Rattle.ucon_model.specs.Plain.{Bytes}
use Rattle.ucon_model.specs.Readings.{session}
use Rattle.ucon_state.specs.Held.{held_after}
use Rattle.ucon_state.specs.Shown.{shown}
use Rattle.ucon_converse.specs.Readings.{text_told}
use Rattle.ucon_converse.proofs.Bare.{compact_lacks, joined_lacks, quoted_lacks, using_lacks, using_of_lacks}
use Rattle.ucon_converse.proofs.Tellings.{follows_whole, if_ok, whole_count}
use Rattle.ucon_converse.proofs.telling.reading_text.Goals as goal

pub returns-in-State-clause-told : goal.returns-in-State-clause-told
returns-in-State-clause-told g c =
    let s = c.args.store.now in
    if_ok c.state_text.result _ _
    (λ told each. λ P G accepts front.
    let H : History = G ++ s.entries in
    each P (trace P H) (follows_whole P s G (shown c.state.result.now) (c.state.ensures.follows c.requires.unmarked P (trace P G) accepts front.starts))
    ∙ (ap (λ (n : ℕ). compact_text (tree_of n (held_after P (trace P H)))) (c.place.ensures.place ∙ whole_count P s G front)) ∙ ap (text_told P s.policy H) (sym c.in-State.is)) c.state_text.ensures

pub returns-in-State-clause-bare : goal.returns-in-State-clause-bare
returns-in-State-clause-bare g c =
    let led = c.requires.led in
    let T : Trace = trace_from led.P led.begun c.args.store.now.entries in
    if_ok c.state_text.result _ _
    (λ told each. subst (λ (text : Bytes). Lacks 10 text) (sym (each led.P T (c.state.ensures.follows c.requires.unmarked led.P led.begun led.accepts led.starts))) (compact_lacks (tree_of c.place.result (held_after led.P T)))) c.state_text.ensures

pub returns-in-Session-clause-told : goal.returns-in-Session-clause-told
returns-in-Session-clause-told g c =
    let s = c.args.store.now in
    if_ok c.session_text.result _ _
    (λ told each. λ P G accepts front.
    let H : History = G ++ s.entries in
    each P (trace P H) (follows_whole P s G (shown c.state-in-Session.result.now) (c.state-in-Session.ensures.follows c.requires.unmarked P (trace P G) accepts front.starts))
    ∙ ap (text_told P s.policy H) (sym c.in-Session.is)) c.session_text.ensures.words

pub returns-in-Using-clause-told : goal.returns-in-Using-clause-told
returns-in-Using-clause-told g c =
    let s = c.args.store.now in
    if_ok c.using_text.result _ _
    (λ told each. λ P G accepts front.
    let H : History = G ++ s.entries in
    each P (trace P H) (follows_whole P s G (shown c.state-in-Using.result.now) (c.state-in-Using.ensures.follows c.requires.unmarked P (trace P G) accepts front.starts))
    ∙ ap (text_told P s.policy H) (sym c.in-Using.is)) c.using_text.ensures

pub returns-in-Using-clause-bare : goal.returns-in-Using-clause-bare
returns-in-Using-clause-bare g c =
    let led = c.requires.led in
    let T : Trace = trace_from led.P led.begun c.args.store.now.entries in
    if_ok c.using_text.result _ _
    (λ told each. subst (λ (text : Bytes). Lacks 10 text) (sym (each led.P T (c.state-in-Using.ensures.follows c.requires.unmarked led.P led.begun led.accepts led.starts))) (using_lacks (usages T))) c.using_text.ensures

pub returns-in-UsingOf-clause-told : goal.returns-in-UsingOf-clause-told
returns-in-UsingOf-clause-told g c =
    let s = c.args.store.now in
    if_ok c.using_of_text.result _ _
    (λ told each. λ P G accepts front.
    let H : History = G ++ s.entries in
    each P (trace P H) (follows_whole P s G (shown c.state-in-UsingOf.result.now) (c.state-in-UsingOf.ensures.follows c.requires.unmarked P (trace P G) accepts front.starts))
    ∙ ap (text_told P s.policy H) (sym c.in-UsingOf.is)) c.using_of_text.ensures

pub returns-in-UsingOf-clause-bare : goal.returns-in-UsingOf-clause-bare
returns-in-UsingOf-clause-bare g c =
    let led = c.requires.led in
    let T : Trace = trace_from led.P led.begun c.args.store.now.entries in
    if_ok c.using_of_text.result _ _
    (λ told each. subst (λ (text : Bytes). Lacks 10 text) (sym (each led.P T (c.state-in-UsingOf.ensures.follows c.requires.unmarked led.P led.begun led.accepts led.starts))) (using_of_lacks c.in-UsingOf.side c.in-UsingOf.name (session T) (usages T))) c.using_of_text.ensures

pub returns-in-Explain-clause-told : goal.returns-in-Explain-clause-told
returns-in-Explain-clause-told g c =
    let s = c.args.store.now in
    if_ok c.explain_text.result _ _
    (λ told each. λ P G accepts front.
    let H : History = G ++ s.entries in
    each P (trace P H) (follows_whole P s G (shown c.state-in-Explain.result.now) (c.state-in-Explain.ensures.follows c.requires.unmarked P (trace P G) accepts front.starts))
    ∙ ap (text_told P s.policy H) (sym c.in-Explain.is)) c.explain_text.ensures

pub returns-in-Explain-clause-bare : goal.returns-in-Explain-clause-bare
returns-in-Explain-clause-bare g c =
    let led = c.requires.led in
    let T : Trace = trace_from led.P led.begun c.args.store.now.entries in
    if_ok c.explain_text.result _ _
    (λ told each. subst (λ (text : Bytes). Lacks 10 text) (sym (each led.P T (c.state-in-Explain.ensures.follows c.requires.unmarked led.P led.begun led.accepts led.starts))) (joined_lacks (try_spelling led.P T c.in-Explain.subject c.in-Explain.right c.in-Explain.object))) c.explain_text.ensures

pub returns-in-Policy-clause-bare : goal.returns-in-Policy-clause-bare
returns-in-Policy-clause-bare g c =
    if_ok c.quoted_text.result _ _ (λ told is. subst (λ (text : Bytes). Lacks 10 text) (sym is) (quoted_lacks c.policy_in_force.result.now)) c.quoted_text.ensures
