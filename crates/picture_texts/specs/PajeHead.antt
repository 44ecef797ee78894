-- What stands before the events of a Pajé trace.
use Rattle.std.specs.Prelude.{ℕ, [], ◌∷◌, ◌++◌, codes}
use Rattle.std.specs.List.{flat_map, range_with_len}
use Rattle.slot_space.specs.declared.names.Tid.{Tid}
use Rattle.picture_texts.specs.Filling.{Text, filled}
use Rattle.picture_texts.specs.Frames.{Frame}

-- the events that define types and values
unfoldable pub definitions_of_types : Text
definitions_of_types = codes "%EventDef PajeDefineContainerType 1\n% Alias string\n% Type string\n% Name string\n%EndEventDef\n%EventDef PajeDefineStateType 2\n% Alias string\n% Type string\n% Name string\n%EndEventDef\n%EventDef PajeDefineEventType 3\n% Alias string\n% Type string\n% Name string\n%EndEventDef\n%EventDef PajeDefineLinkType 4\n% Alias string\n% Type string\n% StartContainerType string\n% EndContainerType string\n% Name string\n%EndEventDef\n%EventDef PajeDefineEntityValue 5\n% Alias string\n% Type string\n% Name string\n% Color color\n%EndEventDef\n"

-- the events of containers, states and labels
unfoldable pub definitions_of_states : Text
definitions_of_states = codes "%EventDef PajeCreateContainer 6\n% Time date\n% Alias string\n% Type string\n% Container string\n% Name string\n%EndEventDef\n%EventDef PajeDestroyContainer 7\n% Time date\n% Type string\n% Name string\n%EndEventDef\n%EventDef PajeSetState 8\n% Time date\n% Type string\n% Container string\n% Value string\n%EndEventDef\n%EventDef PajeNewEvent 9\n% Time date\n% Type string\n% Container string\n% Value string\n%EndEventDef\n"

-- the events of links
unfoldable pub definitions_of_links : Text
definitions_of_links = codes "%EventDef PajeStartLink 10\n% Time date\n% Type string\n% Container string\n% StartContainer string\n% Value string\n% Key string\n%EndEventDef\n%EventDef PajeEndLink 11\n% Time date\n% Type string\n% Container string\n% EndContainer string\n% Value string\n% Key string\n%EndEventDef\n"

-- the types of containers, states, labels and links
unfoldable pub types : Text
types = codes "1 cl 0 \"cluster\"\n1 no cl \"node\"\n1 pr no \"processor\"\n1 th cl \"thread\"\n2 sp pr \"runs\"\n2 st th \"state\"\n3 et th \"label\"\n3 en no \"label\"\n4 ln cl no no \"message\"\n"

-- the states
unfoldable pub states : Text
states = codes "5 busy sp \"run\" \"0.0 0.45 0.7\"\n5 idle sp \"idle\" \"0.9 0.9 0.9\"\n5 run st \"run\" \"0.0 0.45 0.7\"\n5 ready st \"ready\" \"0.87 0.87 0.87\"\n5 join st \"waits for a join\" \"0.84 0.37 0.0\"\n5 print st \"waits for a line\" \"0.34 0.71 0.91\"\n5 call st \"waits for a call\" \"0.8 0.47 0.65\"\n5 coming st \"on its way\" \"0.94 0.89 0.26\"\n5 gone st \"gone\" \"1.0 1.0 1.0\"\n"

-- the links
unfoldable pub links : Text
links = codes "5 move ln \"thread\" \"0.0 0.0 0.0\"\n5 ask ln \"ask\" \"0.84 0.37 0.0\"\n5 say ln \"line\" \"0.0 0.45 0.7\"\n5 answer ln \"answer\" \"0.0 0.62 0.45\"\n5 end ln \"end\" \"0.8 0.47 0.65\"\n5 remote ln \"remote call\" \"0.3 0.3 0.3\"\n"

-- the kinds of events
abbrev pub events : Text
events = definitions_of_types ++ (definitions_of_states ++ definitions_of_links)

-- the types of what they speak of, and their values
abbrev pub kinds : Text
kinds = types ++ (states ++ links)

abbrev pub definitions : Text
definitions = events ++ kinds

-- a processor, which is idle at first
abbrev pub processor_container : ℕ → ℕ → Text
processor_container node vp = filled (node ∷ vp ∷ []) (codes "6 0 pA.B pr nA \"processor B of node A\"\n8 0 sp pA.B idle\n")

abbrev pub processor_containers : ℕ → ℕ → Text
processor_containers processors node = flat_map (processor_container node) (range_with_len 0 processors)

unfoldable pub node_line : ℕ → Text
node_line node = filled (node ∷ []) (codes "6 0 nA no c \"node A\"\n")

-- a node with its processors
abbrev pub node_container : ℕ → ℕ → Text
node_container processors node = node_line node ++ processor_containers processors node

abbrev pub node_containers : ℕ → ℕ → Text
node_containers nodes processors = flat_map (node_container processors) (range_with_len 0 nodes)

-- a thread, which isn't there at first
abbrev pub thread_line : Tid → Text
thread_line t = filled (t.home ∷ t.seq ∷ []) (codes "6 0 tA.B th c \"thread A.B\"\n8 0 st tA.B gone\n")

abbrev pub thread_container : Tid × ℕ → Text
thread_container e = thread_line e.0

-- definitions, the cluster, its nodes, its threads
abbrev pub head_text : Frame → Text
head_text f =
    definitions ++ (codes "6 0 c cl 0 \"cluster\"\n" ++ (node_containers f.nodes f.processors ++ flat_map thread_container f.lanes))
