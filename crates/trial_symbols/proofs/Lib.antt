mod AskedSymbol
mod AddedEvents
mod AddedTexts
