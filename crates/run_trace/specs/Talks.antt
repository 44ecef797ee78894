-- What a node keeps of the negotiation of slots, beside its slots: whose claims wait for a turn, and on node 0 whose turn it is.
use Rattle.std.specs.Prelude.{ℕ, List, [], ◌∷◌, ◌++◌, Bool, true, false, ◌==◌, if◌then◌else◌}
use Rattle.slot_space.specs.declared.names.Tid.{Tid}
use Rattle.run_trace.specs.declared.packet.Body.{Body}
use Rattle.run_trace.specs.declared.packet.Body.TheVariants.{Want, Turn}
use Rattle.run_trace.specs.declared.packet.Send.{Send}

pub record Talk : Type 0 where
  pub claims : List Tid  -- the threads that wait for slots, in the order in which they came to
  pub wants : Bool  -- it has asked for a turn that isn't over
  pub wanting : List ℕ  -- on node 0: the nodes that have, in the order in which that is known; the first has the turn

-- before the first event
abbrev pub silent : Talk
silent = record { claims = []; wants = false; wanting = [] }

abbrev pub one_send : ℕ → Body → List Send
one_send to body = (record { to = to; body = body }) ∷ []

-- ## A node that wants a turn

-- it asks for one, unless it has
abbrev pub want_sends : Talk → List Send
want_sends talk = if talk.wants then [] else one_send 0 Want

abbrev pub wanting_turn : Talk → Talk
wanting_turn talk = record talk { wants = true }

-- a thread for which there are no slots claims them
abbrev pub claiming : Tid → Talk → Talk
claiming t talk = wanting_turn (record talk { claims = talk.claims ++ t ∷ [] })

abbrev pub with_claims : List Tid → Talk → Talk
with_claims claims talk = record talk { claims = claims }

abbrev pub after_turn : Talk → Talk
after_turn talk = record talk { wants = false }

-- after its turn it wants another one for the claims that are left
abbrev pub again_sends : List Tid → Talk → List Send
again_sends [] talk = []
again_sends (t ∷ ts) talk = want_sends talk

abbrev pub again : List Tid → Talk → Talk
again [] talk = talk
again (t ∷ ts) talk = wanting_turn talk

-- ## Node 0: the first of those that want a turn has it

abbrev pub turn_to : List ℕ → List Send
turn_to [] = []
turn_to (m ∷ ms) = one_send m Turn

-- one more wants it; it has it where it is the first
abbrev pub listing_sends : ℕ → List ℕ → List Send
listing_sends m [] = one_send m Turn
listing_sends m (k ∷ ks) = []

abbrev pub listing : ℕ → Talk → Talk
listing m talk = record talk { wanting = talk.wanting ++ m ∷ [] }

abbrev pub without_first : List ℕ → List ℕ
without_first [] = []
without_first (m ∷ ms) = ms

-- the turn of the first is over, and the next has it
abbrev pub next_turn : Talk → Talk
next_turn talk = record talk { wanting = without_first talk.wanting }

abbrev pub is_wanting : ℕ → List ℕ → Bool
is_wanting m [] = false
is_wanting m (k ∷ ks) = if k == m then true else is_wanting m ks

abbrev pub is_first : ℕ → List ℕ → Bool
is_first m [] = false
is_first m (k ∷ ks) = k == m
