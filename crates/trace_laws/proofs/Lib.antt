-- Where each law of `src/laws.rt` is proved.
--   alone               Outcomes.Wholes
--   begun               Outcomes.Beginnings
--   expected            Strays.NoStrays, over Underway.Turns
--   gathered            Merging.Bounded
--   ignored             Strays.Unexpected
--   inside              Outcomes.NothingOutside
--   joined              Merging.Weave
--   judged              Merging.Determined
--   legal               Outcomes.Wholes
--   levels              Lists.ListTrees
--   merged              Merging.Merge, Merging.Determined
--   one_holder          Outcomes.Consequences, Outcomes.Wholes
--   one_trace           Rules.OneTrace
--   picked              Outcomes.RunLists, Outcomes.Arrivals
--   quiet               Outcomes.Stillness, over Lists.InTurn
--   ran                 Lives.RunLemmas
--   ready               Outcomes.RunLists, Outcomes.Legals
--   rules_and_machine   Outcomes.Legals, over Rules.Entries
--   same_wherever       Lives.SameLives
--   seated              Outcomes.Legals, over Outcomes.RunLists
--   started             Outcomes.Wholes
--   told                Outcomes.Legals, over Underway.Simulate
--   unforged            Strays.Strangers
--   whole               Outcomes.Legals, over Underway.Simulate
pub mod Lemmas
pub mod Merging
pub mod Lists
pub mod Lives
pub mod Underway
pub mod Outcomes
pub mod Rules
pub mod Strays
