mod Framed
mod Listed
