-- An option or a flag that stands twice has no settings.
use Rattle.std.proofs.Common.{◌≡◌, refl, ℕ, ◌+◌, ◌≤◌, Bool, true, false, List, [], ◌∷◌, length, All, Option, Some, None, arith}
use Rattle.std.specs.Prelude.{codes, cond, count_by}
use Rattle.std.specs.Str.{bytes_eq}
use Rattle.std.specs.List.{list_all}
use Rattle.std.proofs.lemmas.List.Elements.{All-cons, All-nil}
use Rattle.words.specs.Uses.{is_use}
use Rattle.words.specs.Words.{Item, Text, file, form_of, is_name, items_of, plain, values}
use Rattle.words.proofs.Lemmas.{same_text, tally, tally_is, uses_have_values}
use Rattle.settings.specs.declared.verb.Verb.{Verb}
use Rattle.settings.specs.declared.command.Command.{Command}
use Rattle.settings.specs.declared.command.Command.TheVariants as command
use Rattle.settings.specs.Numbers.{NumberOf, all_names, at_most_once, at_most_one, flag_at, moves, nodes, number_at, quantum, schedule, seed, slots, summary, trace, tree, tree_at, turns}
use Rattle.settings.specs.Settings.{IsOnceOnly, chosen_by, chosen_with, command_of, grammar_of, settings_by, settings_of, some_then, turns_of, verb_of}

-- ---- what there isn't

two_values : (vs : List Text) → 2 ≤ length vs → at_most_one vs ≡ None
two_values [] h = let bad : 2 ≤ 0 = h in absurd (omega arith)
two_values (v ∷ []) h = let bad : 2 ≤ 1 = h in absurd (omega arith)
two_values (v ∷ w ∷ vs) h = refl

two_uses : (vs : List Text) → 2 ≤ length vs → at_most_once vs ≡ None
two_uses [] h = let bad : 2 ≤ 0 = h in absurd (omega arith)
two_uses (v ∷ []) h = let bad : 2 ≤ 1 = h in absurd (omega arith)
two_uses (v ∷ w ∷ vs) h = refl

no_number : (given : Text → List Text) (o : NumberOf) → 2 ≤ length (given o.name) → number_at given o ≡ None
no_number given o h = rw (two_values (given o.name) h) refl

then_nothing : {A B : Type 0} (o : Option A) (next : A → Option B) → ((x : A) → next x ≡ None) → some_then o next ≡ None
then_nothing None next h = refl
then_nothing (Some x) next h = h x

-- there are no settings where this name has two values
abbrev IsSingle : Text → Type 0
IsSingle name = (command : Command) (given : Text → List Text) → 2 ≤ length (given name) → chosen_with command given ≡ None

nodes_single : IsSingle nodes.name
nodes_single command given two = rw (no_number given nodes two) refl

slots_single : IsSingle slots.name
slots_single command given two = then_nothing (number_at given nodes) _ (λ n. rw (no_number given slots two) refl)

quantum_single : IsSingle quantum.name
quantum_single command given two = then_nothing (number_at given nodes) _ (λ n. then_nothing (number_at given slots) _ (λ s. rw (no_number given quantum two) refl))

no_turns : (command : Command) (given : Text → List Text) → 2 ≤ length (given turns.name) → number_at given (turns_of command) ≡ None
no_turns (command.Stress jobs) given h = rw (two_values (given turns.name) h) refl
no_turns (command.Asm file) given h = rw (two_values (given turns.name) h) refl
no_turns (command.Run file) given h = rw (two_values (given turns.name) h) refl
no_turns (command.Sim file) given h = rw (two_values (given turns.name) h) refl
no_turns (command.Replay file acts) given h = rw (two_values (given turns.name) h) refl

turns_single : IsSingle turns.name
turns_single command given two =
    then_nothing (number_at given nodes) _ (λ n. then_nothing (number_at given slots) _ (λ s. then_nothing (number_at given quantum) _ (λ q. rw (no_turns command given two) refl)))

seed_single : IsSingle seed.name
seed_single command given two =
    then_nothing (number_at given nodes) _ (λ n. then_nothing (number_at given slots) _ (λ s. then_nothing (number_at given quantum) _ (λ q. then_nothing (number_at given (turns_of command)) _ (λ t.
    rw (no_number given seed two) refl))))

moves_single : IsSingle moves
moves_single command given two =
    then_nothing (number_at given nodes) _ (λ n. then_nothing (number_at given slots) _ (λ s. then_nothing (number_at given quantum) _ (λ q. then_nothing (number_at given (turns_of command)) _ (λ t.
    then_nothing (number_at given seed) _ (λ d. rw (two_uses (given moves) two) refl)))))

summary_single : IsSingle summary
summary_single command given two =
    then_nothing (number_at given nodes) _ (λ n. then_nothing (number_at given slots) _ (λ s. then_nothing (number_at given quantum) _ (λ q. then_nothing (number_at given (turns_of command)) _ (λ t.
    then_nothing (number_at given seed) _ (λ d. then_nothing (flag_at given moves) _ (λ m. rw (two_uses (given summary) two) refl))))))

trace_single : IsSingle trace
trace_single command given two =
    then_nothing (number_at given nodes) _ (λ n. then_nothing (number_at given slots) _ (λ s. then_nothing (number_at given quantum) _ (λ q. then_nothing (number_at given (turns_of command)) _ (λ t.
    then_nothing (number_at given seed) _ (λ d. then_nothing (flag_at given moves) _ (λ m. then_nothing (flag_at given summary) _ (λ u. rw (two_values (given trace) two) refl)))))))

schedule_single : IsSingle schedule
schedule_single command given two =
    then_nothing (number_at given nodes) _ (λ n. then_nothing (number_at given slots) _ (λ s. then_nothing (number_at given quantum) _ (λ q. then_nothing (number_at given (turns_of command)) _ (λ t.
    then_nothing (number_at given seed) _ (λ d. then_nothing (flag_at given moves) _ (λ m. then_nothing (flag_at given summary) _ (λ u. then_nothing (at_most_one (given trace)) _ (λ r.
    rw (two_values (given schedule) two) refl))))))))

no_tree : (given : Text → List Text) → 2 ≤ length (given tree) → tree_at given ≡ None
no_tree given h = rw (two_values (given tree) h) refl

tree_single : IsSingle tree
tree_single command given two =
    then_nothing (number_at given nodes) _ (λ n. then_nothing (number_at given slots) _ (λ s. then_nothing (number_at given quantum) _ (λ q. then_nothing (number_at given (turns_of command)) _ (λ t.
    then_nothing (number_at given seed) _ (λ d. then_nothing (flag_at given moves) _ (λ m. then_nothing (flag_at given summary) _ (λ u. then_nothing (at_most_one (given trace)) _ (λ r.
    then_nothing (at_most_one (given schedule)) _ (λ c. rw (no_tree given two) refl)))))))))

-- ---- the words

pub good_names : (verb : Verb) (names : List Text) (command : Command) → command_of verb names ≡ Some command → list_all is_name names ≡ true
good_names verb names command e = by_test (list_all is_name names) refl
  where
    by_test : (b : Bool) → list_all is_name names ≡ b → list_all is_name names ≡ true
    by_test true h = h
    by_test false h = let bad = rw h at e in cc

pub verb_is_plain : (word : Text) (verb : Verb) → verb_of word ≡ Some verb → form_of word ≡ plain
verb_is_plain word verb e = by_word (bytes_eq word (codes "asm")) (bytes_eq word (codes "run")) (bytes_eq word (codes "sim")) (bytes_eq word (codes "replay")) (bytes_eq word (codes "stress")) refl refl refl refl refl
  where
    by_word : (a n s r t : Bool) → bytes_eq word (codes "asm") ≡ a → bytes_eq word (codes "run") ≡ n → bytes_eq word (codes "sim") ≡ s → bytes_eq word (codes "replay") ≡ r → bytes_eq word (codes "stress") ≡ t → form_of word ≡ plain
    by_word true n s r t ea en es er et = rw (same_text word (codes "asm") ea) refl
    by_word false true s r t ea en es er et = rw (same_text word (codes "run") en) refl
    by_word false false true r t ea en es er et = rw (same_text word (codes "sim") es) refl
    by_word false false false true t ea en es er et = rw (same_text word (codes "replay") er) refl
    by_word false false false false true ea en es er et = rw (same_text word (codes "stress") et) refl
    by_word false false false false false ea en es er et = let bad = rw (ea, en, es, er, et) at e in cc

verb_is_no_use : (name word : Text) (verb : Verb) → verb_of word ≡ Some verb → is_use name word ≡ false
verb_is_no_use name word verb e = rw (verb_is_plain word verb e) refl

by_command : (name : Text) → IsSingle name → (verb : Verb) (items : List Item) (c : Option Command) → command_of verb (values file items) ≡ c
    → (list_all is_name (values file items) ≡ true → 2 ≤ length (values name items)) → chosen_by verb (λ n. values n items) ≡ None
by_command name single verb items None ec two = rw ec refl
by_command name single verb items (Some command) ec two = rw ec (single command (λ n. values n items) (two (good_names verb (values file items) command ec)))

by_items : (name : Text) → IsSingle name → (verb : Verb) (words : List Text) (i : Option (List Item)) → items_of (grammar_of verb) words ≡ i → 2 ≤ count_by (is_use name) words → settings_by verb words ≡ None
by_items name single verb words None ei h = rw ei refl
by_items name single verb words (Some items) ei h =
    rw ei (by_command name single verb items (command_of verb (values file items)) refl (λ names. omega (arith, h, uses_have_values (grammar_of verb) name words items ei names)))

counts_none : (b : Bool) → b ≡ false → cond {A = ℕ} b 1 0 ≡ 0
counts_none true h = cc
counts_none false h = refl

behind_verb : (name word : Text) (words : List Text) → is_use name word ≡ false → 2 ≤ count_by (is_use name) (word ∷ words) → 2 ≤ count_by (is_use name) words
behind_verb name word words e h =
    let all : cond (is_use name word) 1 0 + tally (is_use name) words ≡ count_by (is_use name) (word ∷ words) = tally_is (is_use name) (word ∷ words) in
    omega (arith, h, all, counts_none (is_use name word) e, tally_is (is_use name) words)

by_verb : (name : Text) → IsSingle name → (word : Text) (words : List Text) (v : Option Verb) → verb_of word ≡ v → 2 ≤ count_by (is_use name) (word ∷ words) → settings_of (word ∷ words) ≡ None
by_verb name single word words None ev h = rw ev refl
by_verb name single word words (Some verb) ev h =
    rw ev (by_items name single verb words (items_of (grammar_of verb) words) refl (behind_verb name word words (verb_is_no_use name word verb ev) h))

once : (name : Text) → IsSingle name → IsOnceOnly name
once name single [] h = refl
once name single (word ∷ words) h = by_verb name single word words (verb_of word) refl h

pub all_once : All IsOnceOnly all_names
all_once =
    All-cons IsOnceOnly nodes.name (slots.name ∷ quantum.name ∷ turns.name ∷ seed.name ∷ tree ∷ trace ∷ schedule ∷ moves ∷ summary ∷ []) (once nodes.name nodes_single)
    (All-cons IsOnceOnly slots.name (quantum.name ∷ turns.name ∷ seed.name ∷ tree ∷ trace ∷ schedule ∷ moves ∷ summary ∷ []) (once slots.name slots_single)
    (All-cons IsOnceOnly quantum.name (turns.name ∷ seed.name ∷ tree ∷ trace ∷ schedule ∷ moves ∷ summary ∷ []) (once quantum.name quantum_single)
    (All-cons IsOnceOnly turns.name (seed.name ∷ tree ∷ trace ∷ schedule ∷ moves ∷ summary ∷ []) (once turns.name turns_single)
    (All-cons IsOnceOnly seed.name (tree ∷ trace ∷ schedule ∷ moves ∷ summary ∷ []) (once seed.name seed_single)
    (All-cons IsOnceOnly tree (trace ∷ schedule ∷ moves ∷ summary ∷ []) (once tree tree_single)
    (All-cons IsOnceOnly trace (schedule ∷ moves ∷ summary ∷ []) (once trace trace_single)
    (All-cons IsOnceOnly schedule (moves ∷ summary ∷ []) (once schedule schedule_single)
    (All-cons IsOnceOnly moves (summary ∷ []) (once moves moves_single)
    (All-cons IsOnceOnly summary [] (once summary summary_single)
    (All-nil IsOnceOnly))))))))))
