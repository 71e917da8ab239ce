mod AskedStrike
