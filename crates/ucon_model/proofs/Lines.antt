-- Command lines and replies as they are read.
use Rattle.std.proofs.Common.{◌≡◌, refl, [], ◌∷◌}
use Rattle.std.specs.Prelude.{pos, negsuc, Ok, Err, Some, None, codes, map}
use Rattle.std.specs.Fmt.{digits}
use Rattle.ucon_base.specs.declared.value.Side.TheVariants as sides
use Rattle.ucon_base.specs.declared.value.Value.TheVariants as values
use Rattle.ucon_model.specs.declared.command.Command.TheVariants as commands
use Rattle.ucon_model.specs.declared.reply.Head.TheVariants as heads
use Rattle.ucon_model.specs.Plain.{made, value_is}
use Rattle.ucon_model.specs.ReplyText.{labelled_read, one_revoked, made_read, numbered_reply, labelled_reply, value_reply, told_read, reply_read}
use Rattle.ucon_model.specs.CommandLine.{command_spelling, no_word, unknown_word, wrong_count, bad_word, one_word, names_of, three_names, place_of, value_words, set_of, set_words, env_of, env_words, amend_words, command_read, line_read}
use Rattle.ucon_model.proofs.Scenes.{empty_policy, reads_empty}

none_or_unknown : map (line_read reads_empty) ([] ∷ codes " end 7" ∷ codes "fly" ∷ codes "End 7" ∷ [])
    ≡ Err no_word ∷ Err no_word ∷ Err unknown_word ∷ Err unknown_word ∷ []
unfolding line_read command_read
none_or_unknown = refl

counted : map (line_read reads_empty) (codes "end" ∷ codes "end 7 7" ∷ codes "try a  x y" ∷ codes "set s a credit" ∷ codes "env zone" ∷ codes "value s a" ∷ [])
    ≡ Err (wrong_count 1) ∷ Err (wrong_count 3) ∷ Err (wrong_count 5) ∷ Err (wrong_count 4) ∷ Err (wrong_count 2) ∷ Err (wrong_count 3) ∷ []
unfolding line_read command_read one_word three_names value_words set_words env_words
counted = refl

numbers : map (line_read reads_empty) (codes "end x" ∷ codes "end " ∷ codes "end 07" ∷ codes "end -1" ∷ codes "end 4294967295" ∷ codes "end 4294967296" ∷ codes "tick -5" ∷ codes "tick \"a\"" ∷ [])
    ≡ Err (bad_word 4) ∷ Err (bad_word 4) ∷ Err (bad_word 4) ∷ Err (bad_word 4) ∷ Ok (commands.End 4294967295) ∷ Err (bad_word 4) ∷ Ok (commands.Tick (negsuc 4)) ∷ Err (bad_word 5) ∷ []
unfolding line_read command_read one_word
numbers = refl

leftmost : map (line_read reads_empty) (codes "try a  x" ∷ codes "value x A b" ∷ codes "set s a credit 5 6" ∷ codes "set s a credit  5" ∷ [])
    ≡ Err (bad_word 6) ∷ Err (bad_word 6) ∷ Err (bad_word 15) ∷ Err (bad_word 15) ∷ []
unfolding line_read command_read names_of three_names place_of value_words set_of set_words
leftmost = refl

rest_of_the_line : map (line_read reads_empty) (codes "env zone \"a  b \"" ∷ codes "set o x tags {\"a b\",\"c\"}" ∷ [])
    ≡ Ok (commands.Env (codes "zone") (values.Text (codes "a  b ")))
    ∷ Ok (commands.Set sides.Object (codes "x") (codes "tags") (values.Set (codes "a b" ∷ codes "c" ∷ []))) ∷ []
unfolding line_read command_read place_of set_of set_words env_of env_words
rest_of_the_line = refl

-- an amendment takes the rest of the line, which may be empty, has no newline, and is read as a policy
amendments : map (line_read reads_empty) (codes "amend" ∷ codes "amend " ∷ codes "amend  " ∷ codes "amend x" ∷ codes "amend \n" ∷ codes "amends " ∷ [])
    ≡ Err (wrong_count 1) ∷ Ok (commands.Amend (record { text = []; policy = empty_policy })) ∷ Err (bad_word 6) ∷ Err (bad_word 6) ∷ Err (bad_word 6)
    ∷ Err unknown_word ∷ []
unfolding line_read command_read amend_words
amendments = refl

written : command_spelling (commands.Set sides.Subject (codes "a") (codes "credit") (values.Int (pos 10))) ≡ codes "set s a credit 10"
unfolding command_spelling digits
written = refl

two_revoked : reply_read (codes "ok revoked 2 lb revoked 7 cap") ≡ Some (made heads.Ok (record { session = 2; label = codes "lb" } ∷ record { session = 7; label = codes "cap" } ∷ []))
unfolding reply_read told_read made_read one_revoked labelled_read
two_revoked = refl

no_replies : map reply_read (codes "ok revoked 2" ∷ codes "ok " ∷ codes "denied 1" ∷ codes "ended 01" ∷ codes "not  admin" ∷ [] ∷ []) ≡ None ∷ None ∷ None ∷ None ∷ None ∷ None ∷ []
unfolding reply_read told_read made_read numbered_reply labelled_reply
no_replies = refl

a_value : reply_read (codes "value \"a b\"") ≡ Some (value_is (values.Text (codes "a b")))
unfolding reply_read told_read value_reply
a_value = refl
