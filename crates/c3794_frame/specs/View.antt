-- What a frame of the code is seen as.
use Rattle.c3794_frame.specs.FrameOf.{Layout}
use Rattle.c3794_frame.specs.declared.frame.Frame.TheInside.{Inside}

-- its layout
abbrev pub layout : Inside → Layout
layout f = record { odd = f.odd; channels = f.channels; yellow = f.yellow; payload = f.payload }
