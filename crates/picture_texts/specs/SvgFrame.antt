-- What stands round the shapes of an SVG.
use Rattle.std.specs.Prelude.{ℕ, ◌+◌, ◌-◌, ◌*◌, ◌/◌, ◌^◌, min, max, [], ◌∷◌, ◌++◌, codes, nat_lt, if◌then◌else◌}
use Rattle.std.specs.List.{flat_map, range_with_len}
use Rattle.slot_space.specs.declared.names.Tid.{Tid}
use Rattle.picture_texts.specs.declared.axis.Axis.{Axis}
use Rattle.picture_texts.specs.Escaping.{escaped}
use Rattle.picture_texts.specs.Filling.{Text, filled}
use Rattle.picture_texts.specs.Frames.{Frame}
use Rattle.picture_texts.specs.Layouts.{across, row_down, lane_down}

-- the colours, which a colour-blind reader tells apart, and the shapes of what waits
unfoldable pub style : Text
style = codes "<style>.n0{fill:#e69f00}.n1{fill:#56b4e9}.n2{fill:#009e73}.n3{fill:#f0e442}.n4{fill:#0072b2}.n5{fill:#d55e00}.n6{fill:#cc79a7}.n7{fill:#000000}.ready{fill:#999999;fill-opacity:0.35}.join{fill:none;stroke:#d55e00;stroke-width:2}.print{fill:none;stroke:#0072b2;stroke-width:2;stroke-dasharray:2 2}.call{fill:none;stroke:#777777}.coming{fill:none;stroke:#000000;stroke-dasharray:6 3}.gone{fill:none}"

-- the shapes of arrows and letters
unfoldable pub lines : Text
lines = codes ".move{stroke:#000000;stroke-width:3}.ask{stroke:#d55e00}.say{stroke:#0072b2;stroke-dasharray:2 2}.answer{stroke:#009e73}.end{stroke:#cc79a7;stroke-dasharray:6 3}.remote{stroke:#000000;stroke-dasharray:2 4}.tick{stroke:#cccccc}.sign{font-weight:bold}.slots{font-style:italic}.fault{fill:#d55e00;font-weight:bold;font-size:14px}</style>\n"

-- the head of an arrow
unfoldable pub head_of_arrows : Text
head_of_arrows = codes "<defs><marker id='a' viewBox='0 0 8 8' refX='8' refY='4' markerWidth='7' markerHeight='7' orient='auto' markerUnits='userSpaceOnUse'><path d='M0 0L8 4L0 8z'/></marker></defs>\n"

-- what the colours of runs stand for
unfoldable pub legend_of_runs : Text
legend_of_runs = codes "<rect width='100%' height='100%' fill='#ffffff'/><text x='4' y='14'>runs on node</text><rect class='n0' x='90' y='4' width='16' height='12'/><text x='108' y='14'>0</text><rect class='n1' x='124' y='4' width='16' height='12'/><text x='142' y='14'>1</text><rect class='n2' x='158' y='4' width='16' height='12'/><text x='176' y='14'>2</text><rect class='n3' x='192' y='4' width='16' height='12'/><text x='210' y='14'>3</text><rect class='n4' x='226' y='4' width='16' height='12'/><text x='244' y='14'>4</text><rect class='n5' x='260' y='4' width='16' height='12'/><text x='278' y='14'>5</text><rect class='n6' x='294' y='4' width='16' height='12'/><text x='312' y='14'>6</text><rect class='n7' x='328' y='4' width='16' height='12'/><text x='346' y='14'>7</text>\n"

-- what the shapes of waits stand for
unfoldable pub legend_of_waits : Text
legend_of_waits = codes "<text x='4' y='32'>waits</text><rect class='ready' x='90' y='22' width='16' height='12'/><text x='112' y='32'>for a processor</text><rect class='join' x='220' y='22' width='16' height='12'/><text x='242' y='32'>for a join</text><rect class='print' x='320' y='22' width='16' height='12'/><text x='342' y='32'>for a line</text><rect class='call' x='420' y='22' width='16' height='12'/><text x='442' y='32'>for another call</text><rect class='coming' x='550' y='22' width='16' height='12'/><text x='572' y='32'>on its way</text>\n"

-- what the lines of arrows stand for
unfoldable pub legend_of_arrows : Text
legend_of_arrows = codes "<text x='4' y='50'>arrows</text><line class='move' x1='90' y1='46' x2='110' y2='46' marker-end='url(#a)'/><text x='116' y='50'>thread</text><line class='ask' x1='170' y1='46' x2='190' y2='46' marker-end='url(#a)'/><text x='196' y='50'>ask</text><line class='say' x1='240' y1='46' x2='260' y2='46' marker-end='url(#a)'/><text x='266' y='50'>line</text><line class='answer' x1='310' y1='46' x2='330' y2='46' marker-end='url(#a)'/><text x='336' y='50'>answer</text><line class='end' x1='390' y1='46' x2='410' y2='46' marker-end='url(#a)'/><text x='416' y='50'>end</text><line class='remote' x1='460' y1='46' x2='480' y2='46' marker-end='url(#a)'/><text x='486' y='50'>remote call</text>\n"

-- what the letters stand for
unfoldable pub legend_of_marks : Text
legend_of_marks = codes "<text x='4' y='68'>marks: b born, e ended, f fault, l line, h halted; slots: t took, g gave, n lent, i in hand, d decided, r returned, o home; bubbles: v down, u burst, m gathered; k dropped</text>\n"

-- how everything looks
abbrev pub look : Text
look = style ++ (lines ++ head_of_arrows)

-- what it stands for
abbrev pub legend : Text
legend = legend_of_runs ++ (legend_of_waits ++ (legend_of_arrows ++ legend_of_marks))

abbrev pub capped : ℕ → ℕ
capped n = min n (2 ^ 64 - 1)

-- how far down the lanes end
abbrev pub bottom : Frame → ℕ
bottom f = lane_down f.nodes f.processors f.count

abbrev pub width : Frame → ℕ
width f = max (capped (across f.axis f.axis.last + 40)) 1100

abbrev pub height : Frame → ℕ
height f = capped (bottom f + 10)

unfoldable pub opening_form : Text
opening_form = codes "<svg xmlns='http://www.w3.org/2000/svg' width='A' height='B' font-family='sans-serif' font-size='11px'><title>"

abbrev pub opening : Frame → Text
opening f = filled (width f ∷ height f ∷ []) opening_form

-- the head with the title, which is a name
abbrev pub head : Frame → Text → Text
head f name = opening f ++ (escaped name ++ codes "</title>\n")

-- how many stamps are between two ticks
abbrev pub step_of : Axis → ℕ
step_of a = max ((a.last - a.first) / 10) 1

abbrev pub tick : Frame → ℕ → Text
tick f stamp =
    if nat_lt f.axis.last stamp then []
    else filled (across f.axis stamp ∷ bottom f ∷ stamp ∷ []) (codes "<line class='tick' x1='A' y1='80' x2='A' y2='B'/><text x='A' y='80'>C</text>\n")

-- the i-th tick
abbrev pub tick_at : Frame → ℕ → Text
tick_at f i = tick f (capped (f.axis.first + capped (step_of f.axis * i)))

abbrev pub ticks : Frame → ℕ → Text
ticks f count = flat_map (tick_at f) (range_with_len 0 count)

abbrev pub node_name : ℕ → ℕ → Text
node_name processors node = filled (node ∷ row_down processors node 0 ∷ []) (codes "<text x='4' y='B' transform='translate(0 12)'>node A</text>\n")

abbrev pub node_names : ℕ → ℕ → Text
node_names nodes processors = flat_map (node_name processors) (range_with_len 0 nodes)

abbrev pub lane_name : ℕ → ℕ → Tid × ℕ → Text
lane_name nodes processors e =
    filled (e.0.home ∷ e.0.seq ∷ lane_down nodes processors e.1 ∷ []) (codes "<text x='4' y='C' transform='translate(0 10)'>A.B</text>\n")

-- the names of the nodes and of the threads
abbrev pub names : Frame → Text
names f = node_names f.nodes f.processors ++ flat_map (lane_name f.nodes f.processors) f.lanes

-- all that stands round the shapes, before them
abbrev pub frame_text : Frame → Text → Text
frame_text f name =
    head f name ++ (look ++ (legend ++ (ticks f 11 ++ names f)))
